use Rattle.std.proofs.Common.{sym, ◌∙◌}
use Rattle.joined_spool.specs.Joins.{joined_count}
use Rattle.joined_spool.proofs.JoinedSpool.count.Goals as goal

pub returns : goal.returns
returns g c = c.count_parts.ensures ∙ sym (joined_count _ _)
