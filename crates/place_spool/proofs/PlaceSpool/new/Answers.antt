use Rattle.place_spool.proofs.Wiped.{wiped_held}
use Rattle.place_spool.proofs.PlaceSpool.new.Goals as goal

pub returns-clause-held : goal.returns-clause-held
returns-clause-held c = wiped_held c.args.memory.now c.wipe.new.memory c.wipe.ensures
