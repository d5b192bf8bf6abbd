-- The sweep: what it tells, and what it leaves.
use Rattle.std.specs.Prelude.{◌≡◌, ℕ, ◌<◌, List, length, Some, None, Option, slice_index_or}
use Rattle.standing.specs.Standings.{standing_at}
use Rattle.searches.specs.Searches.{duty_at, first_duty}
use Rattle.searches.specs.declared.search.Duty.{Duty}
use Rattle.searches.specs.declared.search.Duty.TheVariants.{GiveUp, Expire, EndStatus}
use Rattle.searches.specs.declared.search.Task as search
use Rattle.standing.specs.declared.standing.About.{About}
use Rattle.standing.specs.declared.standing.Standing.{Standing}
use Rattle.standing.specs.declared.standing.Standing.TheVariants.{Free, Waiting, Out, Inbox, Notice}
use Rattle.relay.specs.States.{State, timed}
use Rattle.ending.specs.Acts.{done_as, performed}
use Rattle.ending.specs.declared.act.Act.{Act}
use Rattle.ending.specs.declared.act.Act.TheVariants.{WaitAgain, Report, DoubleFault}
use Rattle.ending.specs.declared.act.Task.{Task}
use Rattle.sweeping.specs.declared.sweep.Swept.{Swept}

abbrev pub task : About → Act → Option Task
task about act = Some (record { about = about; act = act })

-- a try that was given up waits again as after a failed one, an expired message is reported by 405, an ended status is a
-- double fault; a duty is found only where it can be done
abbrev pub chore : Duty → Standing → Option Task
chore GiveUp Free = None
chore GiveUp (Waiting hop due failed about) = None
chore GiveUp (Out hop number since failed about) = task about (WaitAgain failed)
chore GiveUp (Inbox entered about) = None
chore GiveUp (Notice entered about) = None
chore Expire Free = None
chore Expire (Waiting hop due failed about) = task about (Report 405)
chore Expire (Out hop number since failed about) = None
chore Expire (Inbox entered about) = None
chore Expire (Notice entered about) = None
chore EndStatus Free = None
chore EndStatus (Waiting hop due failed about) = task about DoubleFault
chore EndStatus (Out hop number since failed about) = None
chore EndStatus (Inbox entered about) = None
chore EndStatus (Notice entered about) = None

abbrev pub swept_by : State → ℕ → Option Task → Option Swept
swept_by s place (Some t) = Some (record { place = place; done = done_as s place t })
swept_by s place None = None

abbrev pub left_by : State → ℕ → Option Task → State
left_by s place (Some t) = performed s place t
left_by s place None = s

abbrev pub swept_at : State → Option search.Task → Option Swept
swept_at s (Some found) = swept_by s found.place (chore found.duty (standing_at s.standings found.place))
swept_at s None = None

abbrev pub left_at : State → Option search.Task → State
left_at s (Some found) = left_by s found.place (chore found.duty (standing_at s.standings found.place))
left_at s None = s

-- the lowest place where something is due at the relay's time
abbrev pub lowest_duty : State → Option search.Task
lowest_duty s = first_duty s.time 0 s.standings

abbrev pub sweep_answer : State → ℕ → Option Swept
sweep_answer s clock = swept_at (timed s clock) (lowest_duty (timed s clock))

abbrev pub sweep_state : State → ℕ → State
sweep_state s clock = left_at (timed s clock) (lowest_duty (timed s clock))

-- what was done was due at its place, and nothing is at a lower one; nothing says that nothing is due anywhere
abbrev pub LowestDue : ℕ → List Standing → Option Swept → Type 0
LowestDue t ss (Some swept) =
    ((duty : Duty) × (duty_at t (slice_index_or ss swept.place Free) ≡ Some duty))
    × ((k : ℕ) → k < swept.place → duty_at t (slice_index_or ss k Free) ≡ None)
LowestDue t ss None = (k : ℕ) → k < length ss → duty_at t (slice_index_or ss k Free) ≡ None
