use Rattle.std.proofs.Common.{arith}
use Rattle.envelope_fields.specs.Plain.{plain}
use Rattle.writing.proofs.Promises.{content_kind_lem, reads_back, own_bytes}
use Rattle.writing.proofs.writing.write.Goals as goal

pub returns : goal.returns
returns c =
    let d = plain c.args.fields in
    let answer = c.compose.ensures.answer in
    let after = c.compose.ensures.after in
    record {
      answer = answer;
      after = after;
      reads_back = reads_back d c.args.buf.now _ after c.compose.result answer (content_kind_lem c.args.fields.content) (omega arith);
      own_bytes = own_bytes d c.args.buf.now _ c.compose.result answer after;
    }
