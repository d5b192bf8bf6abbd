use Rattle.std.proofs.Common.{length, Ok, ap, ◌∙◌, arith}
use Rattle.std.proofs.lemmas.Result.{err_from_is_err_and}
use Rattle.envelope_fields.specs.Plain.{plain}
use Rattle.writing.proofs.Roomy.{by_answer, refused, too_long, no_room, all_written}
use Rattle.writing.proofs.writing.compose.Goals as goal

pub returns-in_err-check : goal.returns-in_err-check
returns-in_err-check c =
    let d = plain c.args.fields in
    let p = err_from_is_err_and c.from_residual.result c.from_residual.ensures.1 in
    let e = refused d (length c.args.buf.now) _ c.in_err-check.ensures.value in
    rw (p.1, p.2) (record { answer = e; after = by_answer d c.args.buf.now _ e })

pub returns-then-n-gt2048 : goal.returns-then-n-gt2048
returns-then-n-gt2048 c =
    let d = plain c.args.fields in
    let e = too_long d (length c.args.buf.now) c.in_ok-check.ensures.value (omega (arith, c.size_of-n.ensures)) in
    record { answer = e; after = by_answer d c.args.buf.now _ e }

pub returns-then-n-buf : goal.returns-then-n-buf
returns-then-n-buf c =
    let d = plain c.args.fields in
    let e = no_room d (length c.args.buf.now) c.in_ok-check.ensures.value (omega (arith, c.size_of-n.ensures)) (omega (arith, c.size_of-n.ensures)) in
    record { answer = e; after = by_answer d c.args.buf.now _ e }

pub returns : goal.returns
returns c =
    let d = plain c.args.fields in
    let e = all_written d (length c.args.buf.now) c.in_ok-check.ensures.value (omega (arith, c.size_of-n.ensures)) (omega (arith, c.size_of-n.ensures)) in
    record { answer = ap Ok c.size_of-n.ensures ∙ e; after = c.fill.ensures ∙ by_answer d c.args.buf.now _ e }
