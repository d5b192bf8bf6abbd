use Rattle.std.proofs.Common.{refl, arith}
use Rattle.playing.proofs.Entries.{front}
use Rattle.playing.proofs.Turns.{entered_is}
use Rattle.playing.proofs.entry.enter.Goals as goal

pub returns : goal.returns
returns g c = record {
  outcome = entered_is _ _ _ c.args.call _ c.args.entry.now.page _ (omega arith) c.step-entry.ensures.outcome;
  brought = refl;
  account_goes_on = λ log h. front _ c.step-entry.new.buf _ log c.args.call _ _ (omega arith) (c.step-entry.ensures.account_goes_on log h);
}
