use Rattle.std.proofs.Common.{length, take, ap, ◌∙◌, arith}
use Rattle.std.proofs.lemmas.Bool.Decides.{nat_tests}
use Rattle.text.specs.Forms.{is_address}
use Rattle.text.proofs.Padded.{take-padded}
use Rattle.text.proofs.address.filling.spelled.Goals as goal

pub invariant_of-result : goal.invariant_of-result
invariant_of-result c =
    record { within = grind (arith, nat_tests); form = ap (λ z. is_address (take (length c.args.text.now) z)) c.pad.ensures ∙ ap is_address (take-padded c.args.text.now 64 (grind (arith, nat_tests))) ∙ c.requires }
