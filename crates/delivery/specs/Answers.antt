-- Taking an answer to a try: what was done, and what it leaves.
use Rattle.std.specs.Prelude.{ℕ, cond, Some, None, Ok, Err, Option, Result, ◌==◌}
use Rattle.envelope.specs.declared.parts.Kind.{Kind}
use Rattle.envelope.specs.declared.parts.Kind.TheVariants as kind
use Rattle.standing.specs.Standings.{standing_at}
use Rattle.standing.specs.declared.standing.About.{About}
use Rattle.standing.specs.declared.standing.Standing.{Standing}
use Rattle.standing.specs.declared.standing.Standing.TheVariants.{Free, Waiting, Out, Inbox, Notice}
use Rattle.relay.specs.States.{State, timed}
use Rattle.ending.specs.Acts.{done_as, performed}
use Rattle.ending.specs.declared.act.Act.{Act}
use Rattle.ending.specs.declared.act.Act.TheVariants.{WaitAgain, PassOn, Report, DoubleFault}
use Rattle.ending.specs.declared.act.Done.{Done}
use Rattle.ending.specs.declared.act.Task.{Task}
use Rattle.delivery.specs.Outcomes.{reply_of}
use Rattle.delivery.specs.declared.fault.AnswerFault.{AnswerFault}
use Rattle.delivery.specs.declared.fault.AnswerFault.TheVariants.{NotOut}
use Rattle.delivery.specs.declared.outcome.Outcome.{Outcome}
use Rattle.delivery.specs.declared.outcome.Reply.{Reply}
use Rattle.delivery.specs.declared.outcome.Reply.TheVariants.{Receipt, Accepted, Temporary, Permanent}

-- a receipt is reported to the originator of a message that wants one; what a neighbour refuses for good is reported where
-- it is a message, and is a double fault where it is a status
abbrev pub act_after : Kind → About → ℕ → Reply → Act
act_after kind.Message about failed (Receipt c) = cond about.receipt (Report c) PassOn
act_after kind.Message about failed Accepted = PassOn
act_after kind.Message about failed Temporary = WaitAgain failed
act_after kind.Message about failed (Permanent c) = Report c
act_after kind.Status about failed (Receipt c) = PassOn
act_after kind.Status about failed Accepted = PassOn
act_after kind.Status about failed Temporary = WaitAgain failed
act_after kind.Status about failed (Permanent c) = DoubleFault

-- only the try that is out is answered
abbrev pub task_after : ℕ → Reply → Standing → Option Task
task_after number reply Free = None
task_after number reply (Waiting hop due failed about) = None
task_after number reply (Out hop out since failed about) =
    cond (out == number) (Some (record { about = about; act = act_after about.kind about failed reply })) None
task_after number reply (Inbox entered about) = None
task_after number reply (Notice entered about) = None

abbrev pub answer_of : State → ℕ → Option Task → Result Done AnswerFault
answer_of s place (Some task) = Ok (done_as s place task)
answer_of s place None = Err NotOut

abbrev pub left_after : State → ℕ → Option Task → State
left_after s place (Some task) = performed s place task
left_after s place None = s

abbrev pub task_at : State → ℕ → ℕ → Outcome → Option Task
task_at s place number outcome = task_after number (reply_of outcome) (standing_at s.standings place)

abbrev pub answer_told : State → ℕ → ℕ → ℕ → Outcome → Result Done AnswerFault
answer_told s clock place number outcome = answer_of (timed s clock) place (task_at s place number outcome)

abbrev pub answer_state : State → ℕ → ℕ → ℕ → Outcome → State
answer_state s clock place number outcome = left_after (timed s clock) place (task_at s place number outcome)
