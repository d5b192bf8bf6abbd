use Rattle.connection.proofs.Listed.{listed}
use Rattle.connection.proofs.admission.Open.admit.Goals as goal

pub returns : goal.returns
returns c =
    let answer = c.admitted_by_row.ensures.answer in
    record {
      answer = answer;
      listed = listed c.args.self c.args.time c.args.list.now.rows.now _ answer c.admitted_by_row.ensures.address;
    }
