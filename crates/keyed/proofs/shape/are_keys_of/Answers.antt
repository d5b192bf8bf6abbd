use Rattle.std.proofs.Common.{rules, tests}
use Rattle.std.proofs.lemmas.Iterator.Search.{all_from_yields_List}
use Rattle.keyed.specs.Shapes.{key_of}
use Rattle.keyed.proofs.Seen.{seen_from_slice}
use Rattle.keyed.proofs.shape.are_keys_of.Goals as goal

pub returns : goal.returns
returns c = all_from_yields_List (key_of c.args.kind) _ _ c.all.result c.all.ensures.ran (seen_from_slice c.args.words.now cc) (λ x b q k. search (rules, tests))
