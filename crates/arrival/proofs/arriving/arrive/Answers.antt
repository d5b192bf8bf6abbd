use Rattle.connection.specs.Admissions.{may_send}
use Rattle.arrival.proofs.Settles.{only_the_time, is_stored}
use Rattle.arrival.proofs.arriving.arrive.Goals as goal

pub returns : goal.returns
returns g c =
    let s = c.args.relay.now in
    let may = may_send c.args.connection.now in
    let neighbour = c.args.connection.now.neighbour in
    let bytes = c.args.rec.now in
    let routes = c.args.routes.now in
    let ms = c.args.messages.now.rows.now in
    let ss = c.args.statuses.now.rows.now in
    let e = c.receive.ensures.outcome in
    record {
      answer = λ i. (e i).answer;
      state = λ i. (e i).state;
      messages = λ i. (e i).messages;
      statuses = λ i. (e i).statuses;
      messages_lender = c.receive.ensures.messages_lender;
      statuses_lender = c.receive.ensures.statuses_lender;
      not_taken_in_moves_only_the_time = only_the_time s may neighbour c.args.clock bytes routes ms ss _ _ _ _ e;
      taken_in_is_stored = is_stored s may neighbour c.args.clock bytes routes ms ss _ _ _ _ e;
    }
