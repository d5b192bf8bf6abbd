use Rattle.std.proofs.Common.{rules}
use Rattle.intake.specs.TakingIn.{taking_in}
use Rattle.intake.proofs.taking.take_in.Goals as goal

pub returns-in_err-place : goal.returns-in_err-place
unfolding taking_in
returns-in_err-place g c = search rules

pub returns : goal.returns
unfolding taking_in
returns g c = search rules
