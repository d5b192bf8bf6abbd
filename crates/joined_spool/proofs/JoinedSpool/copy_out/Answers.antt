use Rattle.joined_spool.proofs.Calls.{copy_in, copied_in}
use Rattle.joined_spool.proofs.JoinedSpool.copy_out.Goals as goal

pub returns : goal.returns
returns g c =
    let few = g.A.Spool.few c.args.self.now.first in
    let did = c.copy_out_of_part.ensures in
    record {
      answer = copy_in c.args.buf.now _ _ c.args.place _ few did.answer;
      after = copied_in c.args.buf.now _ _ c.args.place _ few did.after;
    }
