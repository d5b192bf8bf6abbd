use Rattle.player.proofs.Stepping.{longer, laws_hold}
use Rattle.player.proofs.step.step.Goals as goal

pub returns : goal.returns
returns g c =
    let e = c.make.ensures.outcome in
    let b = c.make.ensures.brings in
    record {
      outcome = e;
      account_goes_on = λ log h. longer log _ _ _ _ _ _ e b h;
      no_request_lost_or_doubled = λ log h. laws_hold _ _ (longer log _ _ _ _ _ _ e b h);
    }
