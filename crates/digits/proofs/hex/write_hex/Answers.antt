use Rattle.digits.proofs.Writing.{reads_back}
use Rattle.digits.proofs.hex.write_hex.Goals as goal

pub returns-clause-reads_back : goal.returns-clause-reads_back
returns-clause-reads_back c = reads_back
