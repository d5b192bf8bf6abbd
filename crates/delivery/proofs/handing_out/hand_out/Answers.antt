use Rattle.std.proofs.Common.{max, sym, subst}
use Rattle.delivery.specs.HandOuts.{Fair}
use Rattle.delivery.proofs.Fairness as fairness
use Rattle.delivery.proofs.handing_out.hand_out.Goals as goal

pub returns : goal.returns
returns g c =
    let s = c.args.relay.now in
    let e = c.give_out.ensures.answer in
    record { answer = e; state = c.give_out.ensures.state; fair = subst (Fair (max s.time c.args.clock) s.standings) (sym e) (fairness.fair s c.args.clock) }
