-- What it means to be admitted, and not to be.
use Rattle.std.specs.Prelude.{◌≡◌, ℕ, true, List, Some, ◌≢◌}
use Rattle.std.specs.List.{slice_get}
use Rattle.ledger.specs.Kinds.{live}
use Rattle.client_rows.specs.WhiteLists.{white_list_kind}
use Rattle.client_rows.specs.declared.white_list.WhiteListRow.{WhiteListRow}
use Rattle.connection.specs.declared.admission.Open.{Open}
use Rattle.connection.specs.declared.admitted.Admitted.{Admitted}
use Rattle.connection.specs.Admissions.{address_of}

-- a row of the white list is live at time t, has the fingerprint, and lists a as its client
pub record ListedAs (o : Open) (t : ℕ) (rows : List WhiteListRow) (a : Admitted) : Type 0 where
  pub place : ℕ
  pub row : WhiteListRow
  pub at_place : slice_get rows place ≡ Some row
  pub is_live : live white_list_kind t row ≡ true
  pub same_fingerprint : row.fingerprint ≡ o.fingerprint
  pub same_neighbour : a.neighbour ≡ row.client.neighbour
  pub same_class : a.class ≡ row.client.class
  pub same_address : address_of a ≡ row.client.address

-- no row that is live at time t has the fingerprint
abbrev pub Unlisted : Open → ℕ → List WhiteListRow → Type 0
Unlisted o t rows = (place : ℕ) (row : WhiteListRow) → slice_get rows place ≡ Some row → live white_list_kind t row ≡ true → row.fingerprint ≢ o.fingerprint
