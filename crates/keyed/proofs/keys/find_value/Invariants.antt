use Rattle.std.proofs.Common.{◌≡◌, drop}
use Rattle.words.specs.Cuts.{seen}
use Rattle.keyed.specs.Keys.{find}
use Rattle.keyed.proofs.keys.find_value.Given as goal

abbrev pub invariant-loop-word : goal.invariant-loop-word
invariant-loop-word l = find l.name (seen (drop l.word-index l.words)) ≡ find l.name (seen l.words)
