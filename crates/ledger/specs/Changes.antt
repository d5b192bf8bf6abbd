-- What adding and striking answer, and all rows after them.
use Rattle.std.specs.Prelude.{ℕ, Bool, true, false, List, Some, None, Ok, Err, Option, Result, slice_set}
use Rattle.ledger.specs.declared.fault.LedgerFault.{LedgerFault}
use Rattle.ledger.specs.declared.fault.LedgerFault.TheVariants.{NoRow}
use Rattle.ledger.specs.Kinds.{Kind}
use Rattle.ledger.specs.Searches.{entered, place_for}

-- the rows with a row put at a place, if there is one
abbrev pub put : {R : Type 0} → Option ℕ → R → List R → List R
put (Some i) r rows = slice_set rows i r
put None r rows = rows

-- the place, or a refusal where there is none
abbrev pub or_refused : Option ℕ → Result ℕ LedgerFault
or_refused (Some i) = Ok i
or_refused None = Err NoRow

abbrev pub is_place : Option ℕ → Bool
is_place (Some i) = true
is_place None = false

abbrev pub added : {R K : Type 0} → Kind R K → ℕ → R → List R → Result ℕ LedgerFault
added m t row rows = or_refused (place_for m t (m.key row) rows)

abbrev pub rows_after_adding : {R K : Type 0} → Kind R K → ℕ → R → List R → List R
rows_after_adding m t row rows = put (place_for m t (m.key row) rows) row rows

-- whether there was a filled row with that key
abbrev pub struck : {R K : Type 0} → Kind R K → K → List R → Bool
struck m k rows = is_place (entered m k rows)

abbrev pub rows_after_striking : {R K : Type 0} → Kind R K → K → List R → List R
rows_after_striking m k rows = put (entered m k rows) m.freed rows
