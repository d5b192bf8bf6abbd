use Rattle.std.proofs.Common.{◌≡◌, ◌++◌, take, vec_items}
use Rattle.digits.specs.Hexes.{hex_text}
use Rattle.digits.proofs.hex.push_each.Given as goal

abbrev pub invariant-loop-b : goal.invariant-loop-b
invariant-loop-b l = vec_items l.out ≡ vec_items l.initial.out ++ hex_text (take l.b-index l.bytes)
