use Rattle.std.proofs.Common.{rules}
use Rattle.writing.specs.Trips.{Bytes}
use Rattle.player.proofs.Ranges.{bytes_in_range}
use Rattle.player.proofs.step.bring.Goals as goal

pub returns : goal.returns
returns g c =
    let bytes : Bytes c.args.rec.now = search rules in
    record { outcome = c.bring_on.ensures; in_range = bytes_in_range c.args.rec.now bytes }
