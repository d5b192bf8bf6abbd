-- A report on a message that lies in the spool can always be written, and reads as a status.
use Rattle.std.proofs.Common.{◌≡◌, ℕ, ◌+◌, ◌^◌, ◌<◌, ◌≤◌, true, cond, eqb, List, [], ◌∷◌, length, is_ok, Some, None, Ok, Result, sym, refl, ap, ◌∙◌, subst, arith}
use Rattle.std.proofs.lemmas.Bool.{le-leb, and_from}
use Rattle.std.proofs.lemmas.Bool.Decides.{nat_tests}
use Rattle.text.specs.Said.{Said}
use Rattle.text.specs.Forms.{is_address}
use Rattle.envelope.specs.Views.{Whole, whole}
use Rattle.envelope.specs.Decoding.{decode, checked, unless}
use Rattle.envelope.specs.Layout.{row, first_broken}
use Rattle.envelope.specs.Limits.{timeout_ok, code_ok}
use Rattle.envelope.specs.Lawful.{Lawful}
use Rattle.envelope_reading.proofs.Laws.{laws}
use Rattle.envelope_fields.specs.Plain.{Plain}
use Rattle.envelope_fields.specs.Forms.{rows}
use Rattle.writing.specs.Encoding.{encode, size}
use Rattle.writing.specs.Answers.{write_answer}
use Rattle.writing.specs.Trips.{placed}
use Rattle.envelope_fields.proofs.Measures.{measured}
use Rattle.writing.proofs.Sizes.{least_size, length-encode}
use Rattle.writing.proofs.Roomy.{all_written}
use Rattle.writing.proofs.Backs.{read_of_written}
use Rattle.routing.specs.declared.row.Way.TheVariants.{Local}
use Rattle.spool.specs.Meaning.{storable}
use Rattle.relay.specs.Abouts.{about_of}
use Rattle.ending.specs.Reports.{Report, report_on, report_for, report_from, kept, written_as}
use Rattle.account.specs.Records.{is_status, kind_read}
use Rattle.account.specs.Faith.{Describes}
use Rattle.deeds.specs.Ranges.{InRange}

-- of the fields of a message that was read
module _ (address : List ℕ) (code : ℕ) (w : Whole) (l : Lawful w) (from : is_address address ≡ true) (c : code_ok 2 code ≡ true) where
  abbrev report : Plain
  report = report_on address code w.fields

  in_form : first_broken (rows report) ≡ None
  in_form =
      let f = w.fields in
      let x = l.to_least in
      let y = l.to_most in
      let z = l.to_before in
      let t : timeout_ok f.to f.todt ≡ true = grind (arith, nat_tests) in
      λ i. first_broken (row 4 8 (t i) ∷ row 5 10 (le-leb f.ar 1 l.ar_most i) ∷ row 6 11 (le-leb f.vb 4 l.vb_most i) ∷ row 7 12 (c i) ∷ row 8 14 (l.on i)
      ∷ row 9 34 (from i) ∷ row 10 (36 + length address) (l.fr i) ∷ row 11 (38 + length address + length f.fr.bytes) (l.df i)
      ∷ row 12 (40 + length address + length f.fr.bytes + length f.df.bytes) (l.ct i) ∷ [])

  short : size report ≤ 2048
  short = let m = measured report in_form in let a = m.fr in let b = m.ad in let d = m.df in let e = m.ct in omega arith

  pub written : written_as report ≡ Some (encode report)
  written =
      let ok : checked (rows report) ≡ Ok tt = ap (λ o. unless o tt) in_form in
      let e : ◌≡◌ {A = Result ℕ Said} (Ok (size report)) (write_answer report 2048) = all_written report 2048 (sym ok) short short in
      ap (λ (r : Result ℕ Said). cond (is_ok r) (Some (encode report)) None) (sym e)

  pub fits : storable (length (encode report)) ≡ true
  fits =
      let n = length-encode report (measured report in_form) in
      let b = least_size report in_form in
      let s = short in
      and_from _ _ (le-leb 1 (length (encode report)) (omega arith)) (le-leb (length (encode report)) 2048 (omega arith))

  pub reads : w.fields.todt < 2 ^ 32 → ◌≡◌ {A = Result Whole Said} (decode (encode report)) (Ok (placed report))
  reads h = read_of_written report (record { right_kind = refl; in_form = in_form; short = short; todt_fits = h })

-- the report that a place gives way to
pub record Reportable (address : List ℕ) (code : ℕ) (rec : List ℕ) : Type 0 where
  pub report : Report
  pub is : report_for address code rec ≡ Some report
  pub fits : storable (length report.bytes) ≡ true
  pub describes : Describes report.about report.bytes
  pub status : is_status report.bytes ≡ true
  pub in_range : InRange report.bytes

same_read : (v w : Whole) (r : Result Whole Said) → r ≡ Ok v → r ≡ Ok w → v ≡ w
same_read v w r e f = cc

pub reportable : (address : List ℕ) (code : ℕ) (rec : List ℕ) (w : Whole) → is_address address ≡ true → code_ok 2 code ≡ true
    → ◌≡◌ {A = Result Whole Said} (decode rec) (Ok w) → w.kind ≡ 1 → InRange rec → Reportable address code rec
reportable address code rec w from c e k range =
    let l = (laws rec w e).lawful in
    let d = report_on address code w.fields in
    let r = reads address code w l from c (range w e) in
    let made : Report = record { bytes = encode d; about = about_of (whole 2 code w.fields) Local } in
    record {
      report = made;
      is = ap (report_from address code) e ∙ ap (λ n. cond (eqb n 1) (kept (written_as d) code w.fields) None) k ∙ ap (λ o. kept o code w.fields) (written address code w l from c);
      fits = fits address code w l from c;
      describes = (placed d, Local, r, refl);
      status = ap (λ o. eqb (kind_read o) 2) r;
      in_range = λ v q. subst (λ (x : Whole). x.fields.todt < 2 ^ 32) (same_read (placed d) v (decode (encode d)) r q) (range w e);
    }
