use Rattle.std.proofs.Common.{[]}
use Rattle.tray.proofs.Slotted.{slots_set}
use Rattle.tray.proofs.slots.empty_at.Goals as goal

pub returns : goal.returns
returns c = slots_set c.args.slots.now c.args.i _ [] c.requires c.wipe.ensures
