-- The length of a record of fields that are in form.
use Rattle.std.proofs.Common.{◌≡◌, ◌≤◌, ◌++◌, length, None, arith, length-append}
use Rattle.std.proofs.lemmas.Bool.Decides.{nat_tests}
use Rattle.envelope.specs.Layout.{first_broken}
use Rattle.envelope.proofs.Rows.{all_ok}
use Rattle.envelope_fields.specs.Plain.{Plain}
use Rattle.envelope_fields.specs.Forms.{rows, Measured}
use Rattle.writing.specs.Encoding.{prefixed, size, encode}

-- the shortest fields in form
pub least_size : (d : Plain) → first_broken (rows d) ≡ None → 49 ≤ size d
least_size d h =
    let p = (all_ok (rows d) h).1.1.1.1.1 in
    let fr = p.0 in
    let ad = p.1.0 in
    let df = p.1.1.0 in
    let a : 1 ≤ length d.fr = grind (arith, nat_tests) in
    let b : 1 ≤ length d.ad = grind (arith, nat_tests) in
    let c : 5 ≤ length d.df = grind (arith, nat_tests) in
    omega arith

pub length-encode : (d : Plain) → Measured d → length (encode d) ≡ size d
length-encode d m =
    let t4 = prefixed d.ct ++ d.rest in
    let t3 = prefixed d.df ++ t4 in
    let t2 = prefixed d.ad ++ t3 in
    let q0 = length-append d.on (prefixed d.fr ++ t2) in
    let q1 = length-append d.fr t2 in
    let q2 = length-append d.ad t3 in
    let q3 = length-append d.df t4 in
    let q4 = length-append d.ct d.rest in
    let o = m.on in
    omega arith
