use Rattle.message_rows.proofs.Parts.{message_parts}
use Rattle.message_rows.proofs.message.MessageRow.new.Goals as goal

pub returns : goal.returns
returns c = record {
  value = c.row_of.ensures;
  parts = message_parts c.args.fr.now c.args.on.now c.args.kept _ c.row_of.ensures;
}
