use Rattle.std.proofs.Common.{rules}
use Rattle.std.proofs.lemmas.Iterator.{YieldsList-from_slice}
use Rattle.std.proofs.lemmas.Iterator.Consumers.{YieldsList-from_enumerate, YieldsList-from_filter_map}
use Rattle.text.proofs.Chains.{reduced}
use Rattle.searches.specs.Earliest.{sooner}
use Rattle.searches.proofs.Sooner.{candidate, picked}
use Rattle.searches.proofs.table.earliest.Goals as goal

pub returns : goal.returns
returns g c h k =
    picked h c.args.table.now.standings c.reduce.result
    (reduced (λ x. x) sooner (λ a x b q e. search rules) c.reduce.result c.reduce.ensures.ran
    (YieldsList-from_filter_map _ (candidate h) (YieldsList-from_enumerate (YieldsList-from_slice c.args.table.now.standings (cc)) (cc)) c.filter_map.ensures.closure (λ x r q e. search (rules, k))))
