use Rattle.std.proofs.Common.{[], length, ap, arith, rules}
use Rattle.tray.proofs.Slotted.{slots_at}
use Rattle.tray.proofs.slots.copy_from.Goals as goal

pub copy_to-requires : goal.copy_to-requires
copy_to-requires c =
    omega (arith, ap length (slots_at c.args.slots.now c.args.i (record { len = 0; bytes = [] }) (search rules) c.requires.0))

pub returns : goal.returns
returns c =
    let e = slots_at c.args.slots.now c.args.i (record { len = 0; bytes = [] }) (search rules) c.requires.0 in
    cc
