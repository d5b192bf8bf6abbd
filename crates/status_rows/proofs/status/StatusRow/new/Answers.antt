use Rattle.std.proofs.Common.{Some, ap, ◌∙◌}
use Rattle.status_rows.specs.Statuses.{status_in_use}
use Rattle.status_rows.proofs.Parts.{status_parts}
use Rattle.status_rows.proofs.status.StatusRow.new.Goals as goal

pub returns-clause-parts : goal.returns-clause-parts
returns-clause-parts c = status_parts c.args.fr.now c.args.ad.now c.args.on.now c.args.code c.args.kept (Some c.of.result) (ap Some c.of.ensures ∙ ap (λ k. status_in_use k c.args.kept) c.in_ok-key.ensures)
