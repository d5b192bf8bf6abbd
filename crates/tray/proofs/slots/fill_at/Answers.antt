use Rattle.tray.proofs.Slotted.{slots_set, put_held}
use Rattle.tray.proofs.slots.fill_at.Goals as goal

pub returns : goal.returns
returns c =
    slots_set c.args.slots.now c.args.i _ c.args.bytes.now c.requires.0
    (put_held _ c.args.bytes.now _ c.requires.1 c.put.ensures.len c.put.ensures.bytes)
