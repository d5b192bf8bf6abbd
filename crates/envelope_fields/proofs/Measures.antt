-- The lengths of fields that are in form.
use Rattle.std.proofs.Common.{◌≡◌, IfOk, None, Ok, Err, Result, arith}
use Rattle.std.proofs.lemmas.Bool.Decides.{nat_tests}
use Rattle.envelope.specs.declared.fault.FieldFault.{FieldFault}
use Rattle.envelope.specs.Layout.{first_broken}
use Rattle.envelope.specs.Decoding.{checked, told_check}
use Rattle.envelope.proofs.Oks.{unless_ok}
use Rattle.envelope.proofs.Rows.{all_ok}
use Rattle.envelope_fields.specs.Plain.{Plain}
use Rattle.envelope_fields.specs.Forms.{rows, Measured}

pub measured : (d : Plain) → first_broken (rows d) ≡ None → Measured d
measured d h =
    let p = (all_ok (rows d) h).1.1.1.1 in
    let on = p.0 in
    let fr = p.1.0 in
    let ad = p.1.1.0 in
    let df = p.1.1.1.0 in
    let ct = p.1.1.1.1.0 in
    record { on = grind (arith, nat_tests); fr = grind (arith, nat_tests); ad = grind (arith, nat_tests); df = grind (arith, nat_tests); ct = grind (arith, nat_tests) }

pub measured_made : (d : Plain) (r : Result (Unit {0}) FieldFault) → told_check r ≡ checked (rows d) → IfOk r (λ _. Measured d)
measured_made d (Ok x) e = measured d (unless_ok _ _ _ e).0
measured_made d (Err f) e = tt
