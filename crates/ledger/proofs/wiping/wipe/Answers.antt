use Rattle.ledger.proofs.Wiped.{nothing_found}
use Rattle.ledger.proofs.wiping.wipe.Goals as goal

pub returns : goal.returns
returns g c = record {
  rows = c.free_all.ensures;
  empty = nothing_found g.R.Row.kind _ _ g.met.R.Row.empty c.free_all.ensures;
}
