use Rattle.joined_spool.proofs.Calls.{store_in, stored_in}
use Rattle.joined_spool.proofs.JoinedSpool.store.Goals as goal

pub returns : goal.returns
returns g c =
    let few = g.A.Spool.few c.args.self.now.first in
    let did = c.store_in_part.ensures in
    record {
      answer = store_in c.args.bytes.now _ _ c.args.place _ few did.answer;
      after = stored_in c.args.bytes.now _ _ c.args.place _ _ few did.first did.second;
      first = did.first;
      second = did.second;
    }
