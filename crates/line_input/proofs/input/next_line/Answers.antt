use Rattle.std.proofs.Common.{vec_items, ap, ◌∙◌}
use Rattle.line_input.specs.Lines.{lawful}
use Rattle.line_input.proofs.Wholes.{lawful_settled}
use Rattle.line_input.proofs.input.next_line.Goals as goal

pub returns-in-Ok : goal.returns-in-Ok
returns-in-Ok g c = ap (lawful c.in-Ok.got) c.settle.ensures ∙ lawful_settled c.in-Ok.got (vec_items c.fill_line.new.line) c.fill_line.ensures
