use Rattle.std.proofs.Common.{refl}
use Rattle.ledger.proofs.Keys.{found_again, others_added}
use Rattle.ledger.proofs.table.Ledger.add.Goals as goal

pub returns : goal.returns
returns g c = record {
  answer = c.add.ensures.answer;
  rows = c.add.ensures.rows;
  lender = refl;
  again = found_again g.R.Row.kind g.met.R.Row.alike c.args.time c.args.row c.args.self.now.rows.now _ _ c.add.ensures.answer c.add.ensures.rows;
  others = others_added g.R.Row.kind g.met.R.Row.alike c.args.time c.args.row c.args.self.now.rows.now _ c.add.ensures.rows;
}
