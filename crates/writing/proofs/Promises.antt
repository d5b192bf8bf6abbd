-- What follows from the answer of writing and from what it leaves in the buffer.
use Rattle.std.proofs.Common.{◌≡◌, ℕ, ◌+◌, ◌^◌, ◌<◌, ◌≤◌, true, List, [], ◌∷◌, length, take, drop, IfOk, None, Ok, Err, Result, sym, refl, ap, ◌∙◌, subst, arith, length-append, length-drop}
use Rattle.std.proofs.lemmas.List.{take_at}
use Rattle.std.proofs.lemmas.Bool.{le-leb}
use Rattle.std.proofs.lemmas.Bool.Decides.{nat_tests}
use Rattle.text.specs.Said.{Said}
use Rattle.envelope.specs.Limits.{kind_ok, timeout_ok}
use Rattle.envelope.specs.Views.{Whole}
use Rattle.envelope.specs.Layout.{row, first_broken}
use Rattle.envelope.specs.Results.{viewed, unless}
use Rattle.envelope.specs.Decoding.{checked, decode}
use Rattle.envelope.specs.Lawful.{Lawful, Placed}
use Rattle.envelope_reading.proofs.Laws.{laws}
use Rattle.writing.specs.declared.fault.WriteFault.{WriteFault}
use Rattle.envelope_fields.specs.declared.fields.Content.{Content}
use Rattle.envelope_fields.specs.declared.fields.Content.TheVariants.{Message, Status}
use Rattle.envelope_fields.specs.Plain.{Plain, plain_of, content_kind}
use Rattle.writing.specs.Buffers.{filled}
use Rattle.writing.specs.Encoding.{size, encode}
use Rattle.envelope_fields.specs.Forms.{rows}
use Rattle.writing.specs.Refusals.{write_refusal}
use Rattle.writing.specs.Answers.{told_write, write_answer, buffer_after}
use Rattle.writing.specs.Trips.{ReadsBack, OwnBytes}
use Rattle.envelope_fields.proofs.Measures.{measured}
use Rattle.writing.proofs.Sizes.{least_size, length-encode}
use Rattle.writing.proofs.Roomy.{wrote, by_answer, all_written}
use Rattle.writing.proofs.Trips.{written_of_read}
use Rattle.writing.proofs.Backs.{read_of_written}

pub content_kind_lem : (c : Content) → kind_ok (content_kind c) ≡ true
content_kind_lem Message = refl
content_kind_lem (Status code) = refl

-- the front of the buffer is the record
record Front (d : Plain) (n : ℕ) (after : List ℕ) : Type 0 where
  is : take n after ≡ encode d
  within : n ≤ length after

front : (d : Plain) (before after : List ℕ) (n : ℕ) → ◌≡◌ {A = Result ℕ Said} (Ok n) (write_answer d (length before)) → after ≡ buffer_after d before → Front d n after
front d before after n h e =
    let w = wrote d (length before) n h in
    let l = length-encode d (measured d w.none) in
    let f : after ≡ filled (encode d) before = e ∙ sym (by_answer d before (Ok n) h) in
    let a = length-append (encode d) (drop (length (encode d)) before) in
    let b = length-drop (length (encode d)) before in
    let fits = w.fits in
    let n-is = w.is in
    let long : n ≤ length (filled (encode d) before) = omega arith in
    record { is = ap (take n) f ∙ take_at (encode d) _ n (l ∙ sym w.is); within = subst (λ (x : List ℕ). n ≤ length x) (sym f) long }

module _ (d : Plain) (before after : List ℕ) (left : after ≡ buffer_after d before) where
  pub reads_back : (r : Result ℕ WriteFault) → told_write r ≡ write_answer d (length before) → kind_ok d.kind ≡ true → d.todt < 2 ^ 32 → IfOk r (λ n. ReadsBack d n after)
  reads_back (Err f) h k t = tt
  reads_back (Ok n) h k t =
      let w = wrote d (length before) n h in
      let f = front d before after n h left in
      let least = least_size d w.none in
      let short = w.short in
      let n-is = w.is in
      record {
        least = omega arith;
        most = omega arith;
        within = f.within;
        bytes = f.is;
        reads = ap decode f.is ∙ read_of_written d (record { right_kind = k; in_form = w.none; short = w.short; todt_fits = t });
      }

  own_front : (r : Result ℕ WriteFault) → told_write r ≡ write_answer d (length before) → (rec : List ℕ) → encode d ≡ rec → IfOk r (λ n. take n after ≡ rec)
  own_front (Err f) h rec e = tt
  own_front (Ok n) h rec e = (front d before after n h left).is ∙ e

-- an answer that is told as `Ok` is one
pub told_ok : {E : Type 0} (refusal : E → Said) (r : Result ℕ E) (n : ℕ) → ◌≡◌ {A = Result ℕ Said} (viewed (λ x. x) refusal r) (Ok n) → r ≡ Ok n
told_ok refusal (Ok m) n h = cc
told_ok refusal (Err f) n h = let z : ◌≡◌ {A = ℕ} 0 1 = cc in absurd (omega arith)

-- what was read is in form
lawful_in_form : (w : Whole) → Lawful w → first_broken (rows (plain_of w)) ≡ None
lawful_in_form w l =
    let f = w.fields in
    let a = l.to_least in
    let b = l.to_most in
    let c = l.to_before in
    let t : timeout_ok f.to f.todt ≡ true = grind (arith, nat_tests) in
    λ i. first_broken (row 4 8 (t i) ∷ row 5 10 (le-leb f.ar 1 l.ar_most i) ∷ row 6 11 (le-leb f.vb 4 l.vb_most i) ∷ row 7 12 (l.code i) ∷ row 8 14 (l.on i)
    ∷ row 9 34 (l.fr i) ∷ row 10 (36 + length f.fr.bytes) (l.ad i) ∷ row 11 (38 + length f.fr.bytes + length f.ad.bytes) (l.df i)
    ∷ row 12 (40 + length f.fr.bytes + length f.ad.bytes + length f.df.bytes) (l.ct i) ∷ [])

placed_size : (r : List ℕ) (w : Whole) → Placed r w → size (plain_of w) ≡ length r
placed_size r w p =
    let a = p.fr_offset in let b = p.ad_offset in let c = p.df_offset in let d = p.ct_offset in let e = p.rest_offset in let f = p.rest_end in omega arith

pub lawful_writes : (r : List ℕ) (w : Whole) (room : ℕ) → ◌≡◌ {A = Result Whole Said} (decode r) (Ok w) → length r ≤ room → ◌≡◌ {A = Result ℕ Said} (write_answer (plain_of w) room) (Ok (length r))
lawful_writes r w room h fits =
    let l = laws r w h in
    let e = placed_size r w l.placed in
    let most = l.placed.sized.most in
    let ok : checked (rows (plain_of w)) ≡ Ok tt = ap (λ o. unless o tt) (lawful_in_form w l.lawful) in
    sym (all_written (plain_of w) room (sym ok) (omega arith) (omega arith)) ∙ ap Ok e

pub own_bytes : (d : Plain) (before after : List ℕ) (r : Result ℕ WriteFault) → told_write r ≡ write_answer d (length before) → after ≡ buffer_after d before → OwnBytes d before r after
own_bytes d before after r h left = record {
  same = λ rec w bytes reads e. own_front d before after left r h rec (sym (ap encode e) ∙ written_of_read rec w bytes reads);
  written = λ rec w reads e room. told_ok write_refusal r (length rec) (h ∙ sym (ap (λ (x : Plain). write_answer x (length before)) e) ∙ lawful_writes rec w (length before) reads room);
}
