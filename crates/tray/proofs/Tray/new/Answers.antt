use Rattle.std.proofs.Common.{replicate, ap}
use Rattle.tray.specs.Slots.{slots_held}
use Rattle.tray.proofs.Tray.new.Goals as goal

pub returns : goal.returns
unfolding slots_held
returns c = ap (replicate 16) c.empty.ensures
