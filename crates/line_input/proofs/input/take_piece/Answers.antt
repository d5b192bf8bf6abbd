use Rattle.std.proofs.Common.{vec_items, ap, ◌∙◌}
use Rattle.line_input.specs.Kept.{whole}
use Rattle.line_input.proofs.Wholes.{whole_after}
use Rattle.line_input.proofs.input.take_piece.Goals as goal

pub returns : goal.returns
returns g c = ap (whole 8192) c.in_ok-look.ensures.after ∙ whole_after 8192 (vec_items c.args.line.now) c.requires c.args.came c.in-Ok.held.now
