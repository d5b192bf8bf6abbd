use Rattle.std.proofs.Common.{arith}
use Rattle.std.proofs.lemmas.Bool.Decides.{nat_tests}
use Rattle.text.proofs.Joins.{exactly_names, by_parts}
use Rattle.text.proofs.forms.is_address.Goals as goal

pub returns-then-s-le64-clause-value : goal.returns-then-s-le64-clause-value
returns-then-s-le64-clause-value c = let p = by_parts c.args.s.now in grind (arith, nat_tests)

pub returns-then-s-le64-clause-names : goal.returns-then-s-le64-clause-names
returns-then-s-le64-clause-names c = exactly_names c.args.s.now

pub returns-else-s-le64-clause-names : goal.returns-else-s-le64-clause-names
returns-else-s-le64-clause-names c = exactly_names c.args.s.now
