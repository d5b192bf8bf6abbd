use Rattle.std.proofs.Common.{sym, subst}
use Rattle.relay.specs.States.{timed}
use Rattle.sweeping.specs.Sweeps.{LowestDue}
use Rattle.sweeping.proofs.Lowest.{lowest}
use Rattle.sweeping.proofs.sweep.sweep.Goals as goal

pub returns : goal.returns
returns g c =
    let s = timed c.args.relay.now c.args.clock in
    let e = c.sweep_one.ensures.answer in
    record { answer = e; state = c.sweep_one.ensures.state; lowest_due = subst (LowestDue s.time s.standings) (sym e) (lowest s c.sweep_one.ensures.full) }
