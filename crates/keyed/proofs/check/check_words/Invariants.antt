use Rattle.std.proofs.Common.{◌≡◌, drop}
use Rattle.words.specs.Cuts.{seen}
use Rattle.keyed.specs.Fields.{checked_words}
use Rattle.keyed.proofs.check.check_words.Given as goal

abbrev pub invariant-loop-word : goal.invariant-loop-word
invariant-loop-word l = checked_words (seen (drop l.word-index l.words)) ≡ checked_words (seen l.words)
