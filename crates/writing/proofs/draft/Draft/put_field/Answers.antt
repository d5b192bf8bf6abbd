use Rattle.std.proofs.Common.{◌++◌, ap, ◌∙◌, arith}
use Rattle.writing.specs.Buffers.{pasted}
use Rattle.writing.proofs.Pastes.{put_twice}
use Rattle.writing.proofs.draft.Draft.put_field.Goals as goal

pub returns-clause-buf : goal.returns-clause-buf
returns-clause-buf c =
    let d = c.args.self.now in
    let bs = c.args.bytes.now in
    put_twice d.len _ c.to_le_bytes.result bs d.buf.now _ _ (omega arith) c.put.ensures.len c.put.ensures.buf c.put-2.ensures.buf
    ∙ ap (λ x. pasted d.len (x ++ bs) d.buf.now) c.to_le_bytes.ensures
