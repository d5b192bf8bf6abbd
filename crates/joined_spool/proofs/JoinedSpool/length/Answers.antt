use Rattle.joined_spool.proofs.Calls.{length_in}
use Rattle.joined_spool.proofs.JoinedSpool.length.Goals as goal

pub returns : goal.returns
returns g c = length_in _ _ c.args.place _ (g.A.Spool.few c.args.self.now.first) c.length_in_part.ensures
