use Rattle.std.proofs.Common.{arith, rules}
use Rattle.tray.proofs.Slotted.{slots_count}
use Rattle.tray.proofs.slots.count_of.Goals as goal

pub returns-clause-places : goal.returns-clause-places
returns-clause-places c = omega (arith, slots_count c.args.slots.now (search rules))
