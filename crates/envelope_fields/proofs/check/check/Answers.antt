use Rattle.std.proofs.Common.{◌∙◌}
use Rattle.std.proofs.lemmas.Result.{err_from_is_err_and}
use Rattle.envelope.proofs.Rows.{refused_front, passed_front}
use Rattle.envelope_fields.specs.Plain.{plain}
use Rattle.envelope_fields.specs.Forms.{fixed_rows, moving_rows}
use Rattle.envelope_fields.proofs.Measures.{measured_made}
use Rattle.envelope_fields.proofs.check.check.Goals as goal

pub returns : goal.returns
returns c =
    let d = plain c.args.fields in
    let e = c.check_moving.ensures ∙ passed_front (fixed_rows d) (moving_rows d) c.in_ok-check_fixed.ensures in
    record { value = e; measured = measured_made d c.check_moving.result e }
