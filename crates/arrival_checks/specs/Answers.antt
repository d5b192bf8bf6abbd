-- What an arrival is answered by: the number of each answer and of each refusal, with the values that it carries.
use Rattle.std.specs.Prelude.{[], ◌∷◌}
use Rattle.text.specs.Said.{Said, says}
use Rattle.envelope.specs.Refusals.{record_refusal}
use Rattle.ledger.specs.Refusals.{ledger_refusal}
use Rattle.arrival_checks.specs.declared.answer.Arrived.{Arrived}
use Rattle.arrival_checks.specs.declared.answer.Arrived.TheVariants.{Entered, Waiting, Repeated, Unwanted}
use Rattle.arrival_checks.specs.declared.fault.ArrivalFault.{ArrivalFault}
use Rattle.arrival_checks.specs.declared.fault.ArrivalFault.TheVariants.{Record, Originator, NotLive, Different, NoWayOn, NoWayBack, SentBack, Ledger, NoPlace}

-- one that is taken in is told by its place
abbrev pub arrival_says : Arrived → Said
arrival_says (Entered place) = says 100 (place ∷ [])
arrival_says (Waiting place) = says 200 (place ∷ [])
arrival_says (Repeated code) = says code []
arrival_says Unwanted = says 202 []

abbrev pub arrival_refusal : ArrivalFault → Said
arrival_refusal (Record fault) = record_refusal fault
arrival_refusal Originator = says 404 []
arrival_refusal NotLive = says 405 []
arrival_refusal Different = says 411 []
arrival_refusal NoWayOn = says 412 []
arrival_refusal NoWayBack = says 413 []
arrival_refusal SentBack = says 414 []
arrival_refusal (Ledger fault) = ledger_refusal fault
arrival_refusal NoPlace = says 302 []
