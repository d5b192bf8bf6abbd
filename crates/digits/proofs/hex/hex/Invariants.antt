use Rattle.std.proofs.Common.{◌≡◌, length, vec_items}
use Rattle.digits.specs.Hexes.{hex_of}
use Rattle.digits.proofs.Pairs.{joined_to}
use Rattle.digits.proofs.hex.hex.Given as goal

abbrev pub invariant-loop-rest : goal.invariant-loop-rest
invariant-loop-rest l = joined_to (vec_items l.bytes) (hex_of l.rest) ≡ hex_of l.text

abbrev pub decreases-loop-rest : goal.decreases-loop-rest
decreases-loop-rest l = length l.rest
