use Rattle.player.proofs.Beginning.{agrees_at_first}
use Rattle.player.proofs.player.Player.new.Goals as goal

pub returns : goal.returns
returns g c =
    let b = c.begin.ensures in
    record {
      state = b.state;
      connections = b.connections;
      messages = c.forget.ensures.messages;
      statuses = c.forget.ensures.statuses;
      begins_the_account = agrees_at_first _ _ _ _ _ _ b.state c.args.address.form (g.S.Spool.few c.args.spool);
    }
