use Rattle.std.proofs.Common.{◌∙◌}
use Rattle.ledger.specs.Searches.{live_with}
use Rattle.ledger.proofs.Firsts.{first_is}
use Rattle.ledger.proofs.Keys.{found_alike}
use Rattle.ledger.proofs.table.Ledger.find.Goals as goal

pub returns : goal.returns
returns g c =
    let e = c.find.ensures ∙ first_is (live_with g.R.Row.kind c.args.time c.args.key.now) c.args.self.now.rows.now in
    record {
      answer = e;
      alike = λ k s. e ∙ found_alike g.R.Row.kind g.met.R.Row.alike c.args.time k c.args.key.now c.args.self.now.rows.now s;
    }
