use Rattle.std.proofs.Common.{rules, tests}
use Rattle.std.proofs.lemmas.Iterator.Search.{any_from_yields_List}
use Rattle.keyed.specs.Keys.{has_key}
use Rattle.keyed.proofs.Seen.{seen_from_slice}
use Rattle.keyed.proofs.shape.has_any_key.Goals as goal

pub returns : goal.returns
returns c = any_from_yields_List (λ name. has_key name c.args.word.now) _ _ c.any.result c.any.ensures.ran (seen_from_slice c.args.names.now cc) (λ x b q k. search (rules, tests))
