use Rattle.client_rows.proofs.Parts.{white_list_parts}
use Rattle.client_rows.proofs.white_list.WhiteListRow.new.Goals as goal

pub returns-clause-parts : goal.returns-clause-parts
returns-clause-parts c = white_list_parts c.args.fingerprint c.args.neighbour c.args.class c.args.until c.args.address _ c.row_of.ensures
