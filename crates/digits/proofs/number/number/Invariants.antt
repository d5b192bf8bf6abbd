use Rattle.std.proofs.Common.{◌≡◌, ◌≤◌, drop}
use Rattle.digits.specs.Numbers.{number_of}
use Rattle.digits.proofs.Reading.{read_after}
use Rattle.digits.proofs.number.number.Given as goal

abbrev pub invariant-loop-b : goal.invariant-loop-b
invariant-loop-b l = (l.n ≤ l.most) × (read_after l.most l.n (drop l.b-index l.text) ≡ number_of l.most l.text)
