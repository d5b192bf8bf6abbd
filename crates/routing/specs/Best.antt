-- What a chosen way is: the way of a row that fits and that no other that fits goes before.
use Rattle.std.specs.Prelude.{◌≡◌, ℕ, ◌<◌, true, false, ◌&&◌, ◌⊎◌, List, [], length, Some, None, Ok, Err, Option, Result, slice_index_or}
use Rattle.text.specs.Said.{says}
use Rattle.text.specs.Forms.{is_address, is_dataflow}
use Rattle.text.specs.Faults.{text_refusal}
use Rattle.text.specs.declared.fault.TextFault.{TextFault}
use Rattle.routing.specs.declared.row.Way.{Way}
use Rattle.routing.specs.declared.row.RouteRow.{RouteRow}
use Rattle.routing.specs.Rows.{fits, name_count}
use Rattle.routing.specs.Choice.{no_row}

abbrev pub row_at : List RouteRow → ℕ → RouteRow
row_at rows k = slice_index_or rows k no_row

-- row k of the table fits
abbrev pub FitsAt : List ℕ → List ℕ → List RouteRow → ℕ → Type 0
FitsAt target flow rows k = (k < length rows) × (fits target flow (row_at rows k) ≡ true)

-- more names, or as many and a dataflow where the other has none
abbrev pub Better : RouteRow → RouteRow → Type 0
Better a b =
    (name_count b < name_count a)
    ⊎ ((name_count a ≡ name_count b) × (a.has_dataflow ≡ true) × (b.has_dataflow ≡ false))

-- row k fits, no row that fits is better, and it is better than each upper one that fits
pub record Best (target flow : List ℕ) (rows : List RouteRow) (k : ℕ) : Type 0 where
  pub fitting : FitsAt target flow rows k
  pub unbeaten : (j : ℕ) → FitsAt target flow rows j → Better (row_at rows j) (row_at rows k) → ⊥
  pub uppermost : (j : ℕ) → FitsAt target flow rows j → j < k → Better (row_at rows k) (row_at rows j)

-- what holds of the way where one is chosen
abbrev pub WhereChosen : Result (Option Way) TextFault → (Way → Type 0) → Type 0
WhereChosen (Ok (Some way)) P = P way
WhereChosen (Ok None) P = Unit {0}
WhereChosen (Err fault) P = Unit {0}

-- what holds where none is chosen
abbrev pub WhereNone : Result (Option Way) TextFault → Type 0 → Type 0
WhereNone (Ok (Some way)) P = Unit {0}
WhereNone (Ok None) P = P
WhereNone (Err fault) P = Unit {0}

-- what holds of the fault where the choice is refused
abbrev pub WhereRefused : Result (Option Way) TextFault → (TextFault → Type 0) → Type 0
WhereRefused (Ok way) P = Unit {0}
WhereRefused (Err fault) P = P fault

-- a way that a fitting row gives
abbrev pub OfFitting : List RouteRow → List ℕ → List ℕ → Way → Type 0
OfFitting rows target flow way = (k : ℕ) × FitsAt target flow rows k × ((row_at rows k).way ≡ way)

-- the way that the best row gives
abbrev pub OfBest : List RouteRow → List ℕ → List ℕ → Way → Type 0
OfBest rows target flow way = (k : ℕ) × Best target flow rows k × ((row_at rows k).way ≡ way)

abbrev pub NoneFits : List RouteRow → List ℕ → List ℕ → Type 0
NoneFits rows target flow = (k : ℕ) → FitsAt target flow rows k → ⊥

-- the target is no address or the dataflow is none, and 503 says so
abbrev pub IsRefused : List ℕ → List ℕ → TextFault → Type 0
IsRefused target flow fault = ((is_address target && is_dataflow flow) ≡ false) × (text_refusal fault ≡ says 503 [])
