use Rattle.std.proofs.Common.{arith}
use Rattle.digits.proofs.Reading.{reads_back, zero_alone}
use Rattle.digits.proofs.number.write_number.Goals as goal

pub returns-clause-reads_back : goal.returns-clause-reads_back
returns-clause-reads_back c = reads_back c.args.n (omega arith)

pub returns-clause-unpadded : goal.returns-clause-unpadded
returns-clause-unpadded c = zero_alone c.args.n (omega arith)
