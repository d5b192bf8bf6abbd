use Rattle.std.proofs.Common.{◌≡◌, ◌++◌, length, vec_items}
use Rattle.words.specs.Cuts.{seen, words_of}
use Rattle.words.proofs.cut.words.Given as goal

abbrev pub invariant-loop-cut : goal.invariant-loop-cut
invariant-loop-cut l = seen (vec_items l.all) ++ words_of l.rest ≡ words_of l.line

abbrev pub decreases-loop-cut : goal.decreases-loop-cut
decreases-loop-cut l = length l.rest
