use Rattle.std.proofs.Common.{length, sym, ap, ◌∙◌, rules}
use Rattle.tray.proofs.Slotted.{slots_at}
use Rattle.tray.proofs.slots.length_at.Goals as goal

pub returns : goal.returns
returns c =
    c.length.ensures.length ∙ ap length (sym (slots_at c.args.slots.now c.args.i _ (search rules) c.requires))
