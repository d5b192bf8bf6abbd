-- White-list rows: their key is a fingerprint, and they end with the certificate.
use Rattle.std.specs.Prelude.{◌≡◌, ℕ, Bool, true, false, ◌&&◌, ◌||◌, List, replicate, Some, None, Option, ◌==◌, nat_le}
use Rattle.std.specs.Borrow.{Bor}
use Rattle.std.specs.Str.{bytes_eq}
use Rattle.text.specs.Forms.{is_address}
use Rattle.ledger.specs.Kinds.{Kind}
use Rattle.client_rows.specs.declared.client.Client.{Client}
use Rattle.client_rows.specs.declared.white_list.WhiteListRow.{WhiteListRow}
use Rattle.client_rows.specs.Clients.{client_of, client_ok, nameless_client}

abbrev pub white_list_filled : WhiteListRow → Bool
white_list_filled r = r.used && client_ok r.client

abbrev pub freed_white_list_row : WhiteListRow
freed_white_list_row = record { used = false; fingerprint = replicate 32 0; client = nameless_client 0 0; until = 0 }

-- fingerprints are the same byte by byte
abbrev pub white_list_kind : Kind WhiteListRow (List ℕ)
white_list_kind = record { filled = white_list_filled; key = λ r. r.fingerprint; ends = λ r. r.until; same = bytes_eq; freed = freed_white_list_row }

abbrev pub listed : List ℕ → Option Client → ℕ → Option WhiteListRow
listed fingerprint (Some c) end = Some (record { used = true; fingerprint = fingerprint; client = c; until = end })
listed fingerprint None end = None

-- a row in use of these parts, and none where the address is too long to keep
abbrev pub white_list_row : List ℕ → ℕ → ℕ → Option (Bor (List ℕ)) → ℕ → Option WhiteListRow
white_list_row fingerprint neighbour class address end = listed fingerprint (client_of neighbour class address) end

abbrev pub given_address_ok : Option (Bor (List ℕ)) → Bool
given_address_ok (Some a) = is_address a.now
given_address_ok None = false

-- a row is filled where its neighbour and class are lawful, and an Endpoint was given a lawful address
pub record WhiteListParts (neighbour class : ℕ) (address : Option (Bor (List ℕ))) (row : WhiteListRow) : Type 0 where
  pub lawful : white_list_filled row ≡ (nat_le neighbour 254 && (class == 2 || (class == 1 && given_address_ok address)))
