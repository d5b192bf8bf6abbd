-- Taking an envelope in: a row of its ledger, and the lowest free place.
use Rattle.std.specs.Prelude.{ℕ, min, List, length, take, Some, None, Ok, Err, Option, Result}
use Rattle.ledger.specs.Kinds.{Kind}
use Rattle.envelope.specs.Views.{Fields, Whole}
use Rattle.envelope_rows.specs.declared.kept.Kept.{Kept}
use Rattle.ledger.specs.Searches.{found, place_for, row_at}
use Rattle.ledger.specs.Changes.{rows_after_adding}
use Rattle.ledger.specs.declared.fault.LedgerFault.TheVariants.{NoRow}
use Rattle.standing.specs.Frees.{first_free}
use Rattle.standing.specs.declared.standing.About.{About}
use Rattle.routing.specs.declared.row.Way.{Way}
use Rattle.routing.specs.declared.row.Way.TheVariants.{Local, Neighbour}
use Rattle.relay.specs.States.{State}
use Rattle.relay.specs.Moves.{settled}
use Rattle.relay.specs.Abouts.{about_of}
use Rattle.arrival_checks.specs.Repeats.{kept_of, answered_again}
use Rattle.arrival_checks.specs.declared.ways.Ways.{Ways}
use Rattle.arrival_checks.specs.declared.answer.Arrived.{Arrived}
use Rattle.arrival_checks.specs.declared.answer.Arrived.TheVariants.{Entered, Waiting}
use Rattle.arrival_checks.specs.declared.fault.ArrivalFault.{ArrivalFault}
use Rattle.arrival_checks.specs.declared.fault.ArrivalFault.TheVariants.{Ledger, NoPlace}
use Rattle.intake.specs.Steps.{Taken, taken, go_on, unless_found}

-- the lowest free place of those that the spool has
abbrev pub free_place : State → Option ℕ
free_place s = first_free 0 (take (min (length s.places) 256) s.standings)

-- a row to add to, and then a place
abbrev pub room_at : Option ℕ → Option ℕ → Result ℕ ArrivalFault
room_at None place = Err (Ledger NoRow)
room_at (Some row) None = Err NoPlace
room_at (Some row) (Some place) = Ok place

abbrev pub room_for : {R K : Type 0} → Kind R K → State → K → List R → Result ℕ ArrivalFault
room_for m s key rows = room_at (place_for m s.time key rows) (free_place s)

abbrev pub answer_for : Way → ℕ → Arrived
answer_for Local place = Entered place
answer_for (Neighbour n) place = Waiting place

unfoldable pub taking_in : {R K : Type 0} → Kind R K → State → R → Way → About → List ℕ → List R → Taken R
taking_in m s row on about bytes rows =
    go_on s rows (room_for m s (m.key row) rows) (λ place.
    taken (Ok (answer_for on place)) (settled s place on about bytes) (rows_after_adding m s.time row rows))

-- the answer where a row is found
abbrev pub answer_before : {R : Type 0} → Option R → (R → Kept) → Fields → Option (Result Arrived ArrivalFault)
answer_before (Some row) kept f = Some (answered_again (kept row) f)
answer_before None kept f = None

-- an envelope taken in by a row with its key, its ways known
abbrev pub taken_as : {R K : Type 0} → Kind R K → (K → Kept → R) → State → K → Whole → Ways → List ℕ → List R → Taken R
taken_as m made s key w ways bytes rows = taking_in m s (made key (kept_of w.fields ways.on)) ways.on (about_of w ways.back) bytes rows

-- by its key in its ledger: the row that it finds, its ways, and then it is taken in
abbrev pub taken_by : {R K : Type 0} → Kind R K → (K → Kept → R) → (R → Kept) → State → K → Whole → Result Ways ArrivalFault → List ℕ → List R → Taken R
taken_by m made kept s key w ways bytes rows =
    unless_found s rows (row_at (found m s.time key rows) rows) kept w.fields (
    go_on s rows ways (λ ways. taken_as m made s key w ways bytes rows))
