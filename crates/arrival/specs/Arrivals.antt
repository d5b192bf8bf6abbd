-- What comes of an arrival: the answer, the relay, and the rows of both ledgers afterwards.
use Rattle.std.specs.Prelude.{ℕ, Bool, cond, List, Ok, Err, Result, ◌==◌}
use Rattle.text.specs.Said.{Said}
use Rattle.envelope.specs.Results.{viewed}
use Rattle.envelope.specs.Views.{Whole}
use Rattle.envelope.specs.Decoding.{decode}
use Rattle.envelope.specs.Life.{live_at}
use Rattle.message_rows.specs.declared.message.MessageRow.{MessageRow}
use Rattle.status_rows.specs.declared.status.StatusRow.{StatusRow}
use Rattle.routing.specs.declared.row.RouteRow.{RouteRow}
use Rattle.relay.specs.States.{State, timed}
use Rattle.arrival_checks.specs.declared.answer.Arrived.{Arrived}
use Rattle.arrival_checks.specs.declared.fault.ArrivalFault.{ArrivalFault}
use Rattle.arrival_checks.specs.declared.fault.ArrivalFault.TheVariants.{Originator, NotLive}
use Rattle.arrival_checks.specs.Answers.{arrival_refusal}
use Rattle.intake.specs.Steps.{Taken}
use Rattle.message_arrival.specs.Messages.{message_taken}
use Rattle.status_arrival.specs.Statuses.{status_taken}

pub record Outcome (E : Type 0) : Type 0 where
  pub answer : Result Arrived E
  pub state : State
  pub messages : List MessageRow
  pub statuses : List StatusRow

abbrev pub outcome : {E : Type 0} → Result Arrived E → State → List MessageRow → List StatusRow → Outcome E
outcome answer s ms ss = record { answer = answer; state = s; messages = ms; statuses = ss }

-- only the ledger of the envelope's kind can move
abbrev pub of_message : Taken MessageRow → List StatusRow → Outcome ArrivalFault
of_message t ss = record { answer = t.answer; state = t.state; messages = t.rows; statuses = ss }

abbrev pub of_status : List MessageRow → Taken StatusRow → Outcome ArrivalFault
of_status ms t = record { answer = t.answer; state = t.state; messages = ms; statuses = t.rows }

-- an envelope that the neighbour may send; kind 1 is a message
abbrev pub brought : State → ℕ → Whole → List ℕ → List RouteRow → List MessageRow → List StatusRow → Outcome ArrivalFault
brought s neighbour w bytes routes ms ss =
    cond (live_at w s.time)
    (cond (w.kind == 1)
    (of_message (message_taken s neighbour w.fields bytes routes ms) ss)
    (of_status ms (status_taken s neighbour w.code w.fields bytes routes ss)))
    (outcome (Err NotLive) s ms ss)

-- FR is an address that the connection may send from
abbrev pub originator_checked : (List ℕ → Bool) → Whole → Result (Unit {0}) ArrivalFault
originator_checked may w = cond (may w.fields.fr.bytes) (Ok tt) (Err Originator)

-- what comes next, where a check passed
abbrev pub when_passed : State → List MessageRow → List StatusRow → Result (Unit {0}) ArrivalFault → Outcome ArrivalFault → Outcome ArrivalFault
when_passed s ms ss (Ok passed) next = next
when_passed s ms ss (Err fault) next = outcome (Err fault) s ms ss

-- with the refusal's number and values in the place of the fault
abbrev pub in_numbers : Outcome ArrivalFault → Outcome Said
in_numbers o = record { answer = viewed (λ x. x) arrival_refusal o.answer; state = o.state; messages = o.messages; statuses = o.statuses }

-- a record that is read, or refused
abbrev pub when_read : State → List MessageRow → List StatusRow → Result Whole Said → (Whole → Outcome Said) → Outcome Said
when_read s ms ss (Ok w) next = next w
when_read s ms ss (Err refusal) next = outcome (Err refusal) s ms ss

-- a record arrives on a connection with a neighbour who may send from some addresses: the clock is read first, whatever comes of
-- the record
abbrev pub arrival : State → (List ℕ → Bool) → ℕ → ℕ → List ℕ → List RouteRow → List MessageRow → List StatusRow → Outcome Said
arrival s may neighbour clock bytes routes ms ss =
    let now = timed s clock in
    when_read now ms ss (decode bytes) (λ w.
    in_numbers (when_passed now ms ss (originator_checked may w) (brought now neighbour w bytes routes ms ss)))
