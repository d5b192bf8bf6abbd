use Rattle.std.proofs.Common.{sym, ◌∙◌}
use Rattle.digits.proofs.Reading.{read_more}
use Rattle.digits.proofs.number.number.Goals as goal

pub returns-in_err-n : goal.returns-in_err-n
returns-in_err-n c = c.from_residual.ensures ∙ sym (read_more c.args.most _ c.args.text.now c.loop-b.b-index _ c.loop-b-test.true c.in_err-n.ensures) ∙ c.loop-b.invariant.1
