use Rattle.joined_spool.proofs.Calls.{clear_in, cleared_in}
use Rattle.joined_spool.proofs.JoinedSpool.clear.Goals as goal

pub returns : goal.returns
returns g c =
    let few = g.A.Spool.few c.args.self.now.first in
    let did = c.clear_in_part.ensures in
    record {
      answer = clear_in _ _ c.args.place _ few did.answer;
      after = cleared_in _ _ c.args.place _ _ few did.first did.second;
      first = did.first;
      second = did.second;
    }
