use Rattle.std.proofs.Common.{refl}
use Rattle.ledger.proofs.Keys.{others_struck}
use Rattle.ledger.proofs.table.Ledger.strike.Goals as goal

pub returns : goal.returns
returns g c = record {
  answer = c.strike.ensures.answer;
  rows = c.strike.ensures.rows;
  lender = refl;
  others = others_struck g.R.Row.kind g.met.R.Row.alike g.met.R.Row.empty c.args.key.now c.args.self.now.rows.now _ c.strike.ensures.rows;
}
