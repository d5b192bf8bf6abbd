use Rattle.std.proofs.Common.{◌≡◌, true, vec_items}
use Rattle.line_input.specs.Kept.{whole}
use Rattle.line_input.proofs.input.fill_line.Given as goal

abbrev pub invariant-loop : goal.invariant-loop
invariant-loop g l = whole 8192 (vec_items l.line) ≡ true
