-- The address that a message came from, which a status of it goes back to.
use Rattle.std.specs.Prelude.{cond, ◌==◌}
use Rattle.envelope.specs.Views.{Seen, Whole}

-- FR of a message, AD of a status
abbrev pub originator_of : Whole → Seen
originator_of w = cond (w.kind == 1) w.fields.fr w.fields.ad
