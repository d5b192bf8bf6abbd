use Rattle.std.proofs.Common.{rules}
use Rattle.writing.specs.Trips.{Bytes}
use Rattle.rewriting.proofs.Again.{rewritten}
use Rattle.rewriting.proofs.rewriting.rewrite.Goals as goal

pub returns : goal.returns
returns c =
    let bytes : Bytes c.args.rec.now = search rules in
    let answer = c.transcribe.ensures.answer in
    let after = c.transcribe.ensures.after in
    record { answer = answer; after = after; same = rewritten c.args.rec.now c.args.buf.now _ c.transcribe.result answer after bytes }
