use Rattle.std.proofs.Common.{rules, tests}
use Rattle.std.proofs.lemmas.Iterator.Search.{all_from_yields_List}
use Rattle.words.specs.Cuts.{seen}
use Rattle.keyed.specs.Shapes.{at_most_once}
use Rattle.keyed.proofs.Seen.{seen_from_slice}
use Rattle.keyed.proofs.shape.are_at_most_once.Goals as goal

pub returns : goal.returns
returns c = all_from_yields_List (λ name. at_most_once name (seen c.args.words.now)) _ _ c.all.result c.all.ensures.ran (seen_from_slice c.args.names.now cc) (λ x b q k. search (rules, tests))
