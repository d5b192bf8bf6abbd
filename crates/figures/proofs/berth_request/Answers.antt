use Rattle.figures.proofs.Computed.{computed}
use Rattle.figures.proofs.berth_request.Goals as goal

pub returns : goal.returns
returns c = record { fields = c.request.ensures; figures = computed }
