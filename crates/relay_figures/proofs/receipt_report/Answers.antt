use Rattle.relay_figures.proofs.Relayed.{relayed}
use Rattle.relay_figures.proofs.receipt_report.Goals as goal

pub returns : goal.returns
returns c = record { fields = c.report.ensures; figures = relayed }
