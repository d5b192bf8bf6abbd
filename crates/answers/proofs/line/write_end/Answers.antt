use Rattle.answers.proofs.Behind.{lines_stand_behind}
use Rattle.answers.proofs.line.write_end.Goals as goal

pub returns-clause-behind : goal.returns-clause-behind
returns-clause-behind c = lines_stand_behind
