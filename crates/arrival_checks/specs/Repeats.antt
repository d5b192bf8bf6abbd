-- What a row keeps of an envelope, and what is answered where a row is found for one.
use Rattle.std.specs.Prelude.{ℕ, Bool, cond, ◌&&◌, Ok, Err, Result, ◌==◌}
use Rattle.envelope.specs.Views.{Fields}
use Rattle.envelope_rows.specs.declared.kept.Kept.{Kept}
use Rattle.routing.specs.declared.row.Way.{Way}
use Rattle.routing.specs.declared.row.Way.TheVariants.{Local, Neighbour}
use Rattle.arrival_checks.specs.declared.answer.Arrived.{Arrived}
use Rattle.arrival_checks.specs.declared.answer.Arrived.TheVariants.{Repeated}
use Rattle.arrival_checks.specs.declared.fault.ArrivalFault.{ArrivalFault}
use Rattle.arrival_checks.specs.declared.fault.ArrivalFault.TheVariants.{Different}

-- the code answered first: 100 to an envelope for the local office, 200 to one for a neighbour
abbrev pub first_code : Way → ℕ
first_code Local = 100
first_code (Neighbour n) = 200

abbrev pub kept_of : Fields → Way → Kept
kept_of f on = record { todt = f.todt; to = f.to; first = first_code on }

-- the same envelope again: TODT and TO are those that the row keeps
abbrev pub is_repeat : Kept → Fields → Bool
is_repeat kept f = kept.todt == f.todt && kept.to == f.to

-- the first code plus 1; a live row has 100 or 200
abbrev pub again_code : ℕ → ℕ
again_code first = cond (first == 100) 101 201

-- where there is a row with the key of an envelope
abbrev pub answered_again : Kept → Fields → Result Arrived ArrivalFault
answered_again kept f = cond (is_repeat kept f) (Ok (Repeated (again_code kept.first))) (Err Different)
