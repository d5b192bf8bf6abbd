use Rattle.std.proofs.Common.{IfSome, sym, subst}
use Rattle.short_text.specs.ShortTexts.{Holds}
use Rattle.short_text.proofs.Held.{kept_holds}
use Rattle.short_text.proofs.short_text.ShortText.new.Goals as goal

pub returns-clause-holds : goal.returns-clause-holds
returns-clause-holds c = subst (λ o. IfSome o (Holds c.args.text.now)) (sym c.keep.ensures) (kept_holds c.args.text.now)
