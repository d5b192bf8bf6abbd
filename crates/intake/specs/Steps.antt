-- The steps of an arrival at one ledger: each goes on, or ends with an answer that moves nothing.
use Rattle.std.specs.Prelude.{List, Some, None, Ok, Err, Option, Result}
use Rattle.envelope.specs.Views.{Fields}
use Rattle.envelope_rows.specs.declared.kept.Kept.{Kept}
use Rattle.relay.specs.States.{State}
use Rattle.arrival_checks.specs.declared.answer.Arrived.{Arrived}
use Rattle.arrival_checks.specs.declared.fault.ArrivalFault.{ArrivalFault}
use Rattle.arrival_checks.specs.Repeats.{answered_again}

-- what is answered, and the relay and the rows of the ledger afterwards
pub record Taken (R : Type 0) : Type 0 where
  pub answer : Result Arrived ArrivalFault
  pub state : State
  pub rows : List R

abbrev pub taken : {R : Type 0} → Result Arrived ArrivalFault → State → List R → Taken R
taken answer s rows = record { answer = answer; state = s; rows = rows }

-- go on with a value; a refusal moves nothing
abbrev pub go_on : {A R : Type 0} → State → List R → Result A ArrivalFault → (A → Taken R) → Taken R
go_on s rows (Ok x) next = next x
go_on s rows (Err fault) next = taken (Err fault) s rows

-- a row that is found decides the answer, and nothing moves
abbrev pub unless_found : {R : Type 0} → State → List R → Option R → (R → Kept) → Fields → Taken R → Taken R
unless_found s rows (Some row) kept f next = taken (answered_again (kept row) f) s rows
unless_found s rows None kept f next = next
