use Rattle.std.proofs.Common.{sym, subst}
use Rattle.routing.specs.Best.{WhereChosen, WhereNone, WhereRefused, OfFitting, OfBest, NoneFits, IsRefused}
use Rattle.routing.proofs.Chosen.{chosen_fits, chosen_best, chosen_none, chosen_refused}
use Rattle.routing.proofs.choice.choose.Goals as goal

pub returns : goal.returns
returns c =
    let rows = c.args.rows.now in
    let t = c.args.target.now in
    let d = c.args.dataflow.now in
    let e = sym c.checked_way.ensures in
    record {
      value = c.checked_way.ensures;
      fits = subst (λ r. WhereChosen r (OfFitting rows t d)) e (chosen_fits rows t d);
      best = subst (λ r. WhereChosen r (OfBest rows t d)) e (chosen_best rows t d);
      none = subst (λ r. WhereNone r (NoneFits rows t d)) e (chosen_none rows t d);
      refused = subst (λ r. WhereRefused r (IsRefused t d)) e (chosen_refused rows t d);
    }
