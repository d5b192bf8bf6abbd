-- What holds of a record that reads well.
use Rattle.std.proofs.Common.{◌≡◌, ℕ, ◌+◌, ◌≤◌, Bool, true, List, length, take, drop, IfOk, None, Ok, Err, Result, sym, refl, ap, ◌∙◌, subst, arith}
use Rattle.std.proofs.lemmas.List.{length-take-le, length-drop, take_all}
use Rattle.std.proofs.lemmas.Bool.{and_parts, leb-true}
use Rattle.std.proofs.lemmas.Bool.Decides.{nat_tests}
use Rattle.text.specs.Forms.{is_address, is_dataflow, is_operation_number, is_contacts}
use Rattle.text.specs.Said.{Said}
use Rattle.envelope.specs.declared.parts.Envelope.{Envelope}
use Rattle.envelope.specs.declared.fault.RecordFault.{RecordFault}
use Rattle.envelope.specs.Integers.{u16_at, u32_at}
use Rattle.envelope.specs.Limits.{length_ok, kind_ok, timeout_ok}
use Rattle.envelope.specs.Views.{Whole, whole, held}
use Rattle.envelope.specs.Layout.{next, seen_at, fits_at, field_ok, ad_at, df_at, ct_at, rest_at, on_in, rows, first_broken, fields}
use Rattle.envelope.specs.Results.{unless}
use Rattle.envelope.specs.Decoding.{decode_kind, decode, told}
use Rattle.envelope.specs.Lawful.{Lawful, Sized, PartOf, Placed}
use Rattle.envelope.proofs.Oks.{ok_cond, ok_then, unless_ok}
use Rattle.envelope.proofs.Rows.{all_ok}

-- what each check of a record that reads well told
pub record Checked (r : List ℕ) (w : Whole) : Type 0 where
  pub long : length_ok r ≡ true
  pub kind : kind_ok (u16_at r 2) ≡ true
  pub none : first_broken (rows r) ≡ None
  pub is : w ≡ whole (u16_at r 2) (u16_at r 12) (fields r)

pub all_checked : (r : List ℕ) (w : Whole) → ◌≡◌ {A = Result Whole Said} (decode r) (Ok w) → Checked r w
all_checked r w h =
    let t = ok_then (decode_kind r) (λ k. unless (first_broken (rows r)) (whole k (u16_at r 12) (fields r))) w h in
    let a = ok_cond (length_ok r) _ _ t.0 t.1 in
    let b = ok_cond (kind_ok (u16_at r 2)) _ _ t.0 a.1 in
    let k : t.0 ≡ u16_at r 2 = let e = b.1 in cc in
    let o = unless_ok (first_broken (rows r)) _ w (sym t.2) in
    record { long = a.0; kind = b.0; none = o.0; is = o.1 ∙ ap (λ n. whole n (u16_at r 12) (fields r)) k }

-- a field that is in form lies in the record
pub field_fits : (form : List ℕ → Bool) (r : List ℕ) (at : ℕ) → field_ok form r at ≡ true → next r at ≤ length r
field_fits form r at h = leb-true _ _ (and_parts _ _ (and_parts (fits_at r at) (form (seen_at r at).bytes) h).0).1

pub field_length : (r : List ℕ) (at : ℕ) → next r at ≤ length r → length (seen_at r at).bytes ≡ u16_at r at
field_length r at h = length-take-le (u16_at r at) (drop (at + 2) r) (let d = length-drop (at + 2) r in omega arith)

in_form : (form : List ℕ → Bool) (r : List ℕ) (at : ℕ) → field_ok form r at ≡ true → form (seen_at r at).bytes ≡ true
in_form form r at h = (and_parts (fits_at r at) (form (seen_at r at).bytes) h).1

field_part : (r : List ℕ) (at : ℕ) → next r at ≤ length r → PartOf r (seen_at r at)
field_part r at h =
    let l = field_length r at h in
    record { within = omega arith; bytes = ap (λ n. take n (drop (at + 2) r)) (sym l) }

-- the operation number has its length, since its form says so
number_length : (bs : List ℕ) → is_operation_number bs ≡ true → length bs ≡ 20
number_length bs h = grind (arith, nat_tests)

record Spans (low high : ℕ) (bs : List ℕ) : Type 0 where
  least : low ≤ length bs
  most : length bs ≤ high

address_spans : (bs : List ℕ) → is_address bs ≡ true → Spans 1 64 bs
address_spans bs h = record { least = grind (arith, nat_tests); most = grind (arith, nat_tests) }

dataflow_spans : (bs : List ℕ) → is_dataflow bs ≡ true → Spans 5 256 bs
dataflow_spans bs h = record { least = grind (arith, nat_tests); most = grind (arith, nat_tests) }

contacts_spans : (bs : List ℕ) → is_contacts bs ≡ true → Spans 0 128 bs
contacts_spans bs h = record { least = omega arith; most = grind (arith, nat_tests) }

length_spans : (r : List ℕ) → length_ok r ≡ true → Sized r
length_spans r h = record { least = grind (arith, nat_tests); most = grind (arith, nat_tests) }

-- the moving fields of a record lie in it
pub record Fit (r : List ℕ) : Type 0 where
  pub fr : next r 34 ≤ length r
  pub ad : next r (ad_at r) ≤ length r
  pub df : next r (df_at r) ≤ length r
  pub ct : next r (ct_at r) ≤ length r

pub all_fit : (r : List ℕ) → first_broken (rows r) ≡ None → Fit r
all_fit r h = let q = (all_ok (rows r) h).1.1.1.1.1 in record {
  fr = field_fits is_address r 34 q.0;
  ad = field_fits is_address r (ad_at r) q.1.0;
  df = field_fits is_dataflow r (df_at r) q.1.1.0;
  ct = field_fits is_contacts r (ct_at r) q.1.1.1.0;
}

abbrev whole_of : List ℕ → Whole
whole_of r = whole (u16_at r 2) (u16_at r 12) (fields r)

placed_at : (r : List ℕ) → Sized r → Fit r → Placed r (whole_of r)
placed_at r s f =
    let d14 = length-drop 14 r in
    let on : length (on_in r).bytes ≡ 20 = length-take-le 20 (drop 14 r) (omega arith) in
    let fr = field_length r 34 f.fr in
    let ad = field_length r (ad_at r) f.ad in
    let df = field_length r (df_at r) f.df in
    let ct = field_length r (ct_at r) f.ct in
    let rest = length-drop (rest_at r) r in
    record {
      sized = s;
      on = record { within = omega arith; bytes = ap (λ n. take n (drop 14 r)) (sym on) };
      fr = field_part r 34 f.fr;
      ad = field_part r (ad_at r) f.ad;
      df = field_part r (df_at r) f.df;
      ct = field_part r (ct_at r) f.ct;
      rest = record { within = omega arith; bytes = sym (take_all (length (drop (rest_at r) r)) (drop (rest_at r) r) (omega arith)) };
      on_offset = refl;
      fr_offset = refl;
      ad_offset = omega arith;
      df_offset = omega arith;
      ct_offset = omega arith;
      rest_offset = omega arith;
      rest_end = omega arith;
    }

timeout_spans : (to todt : ℕ) → timeout_ok to todt ≡ true → (1 ≤ to) × (to ≤ 600) × (to ≤ todt)
timeout_spans to todt h = (grind (arith, nat_tests), grind (arith, nat_tests), grind (arith, nat_tests))

lawful_at : (r : List ℕ) → kind_ok (u16_at r 2) ≡ true → first_broken (rows r) ≡ None → Placed r (whole_of r) → Lawful (whole_of r)
lawful_at r k h at =
    let p = all_ok (rows r) h in
    let q = p.1.1.1.1.1 in
    let t = timeout_spans (u16_at r 8) (u32_at r 4) p.0 in
    let fr = in_form is_address r 34 q.0 in
    let ad = in_form is_address r (ad_at r) q.1.0 in
    let df = in_form is_dataflow r (df_at r) q.1.1.0 in
    let ct = in_form is_contacts r (ct_at r) q.1.1.1.0 in
    let frs = address_spans _ fr in
    let ads = address_spans _ ad in
    let dfs = dataflow_spans _ df in
    let cts = contacts_spans _ ct in
    record {
      kind = k;
      code = p.1.1.1.0;
      to_least = t.0;
      to_most = t.1;
      to_before = t.2;
      ar_most = leb-true _ _ p.1.0;
      vb_most = leb-true _ _ p.1.1.0;
      on = p.1.1.1.1.0;
      fr = fr;
      ad = ad;
      df = df;
      ct = ct;
      on_length = number_length _ p.1.1.1.1.0;
      fr_least = frs.least;
      fr_most = frs.most;
      ad_least = ads.least;
      ad_most = ads.most;
      df_least = dfs.least;
      df_most = dfs.most;
      ct_most = cts.most;
      rest_most = let a = at.fr_offset in let b = at.ad_offset in let c = at.df_offset in let d = at.ct_offset in let e = at.rest_offset in let f = at.rest_end in let g = at.sized.most in
          let l1 = frs.least in let l2 = ads.least in let l3 = dfs.least in omega arith;
    }

-- what a record that reads well gives
pub record Laws (r : List ℕ) (w : Whole) : Type 0 where
  pub lawful : Lawful w
  pub placed : Placed r w

pub laws : (r : List ℕ) (w : Whole) → ◌≡◌ {A = Result Whole Said} (decode r) (Ok w) → Laws r w
laws r w h =
    let c = all_checked r w h in
    let at = placed_at r (length_spans r c.long) (all_fit r c.none) in
    subst (Laws r) (sym c.is) (record { lawful = lawful_at r c.kind c.none at; placed = at })

pub laws_made : (r : List ℕ) (e : Result Envelope RecordFault) → told e ≡ decode r → IfOk e (λ x. Laws r (held x))
laws_made r (Ok e) h = laws r (held e) (sym h)
laws_made r (Err f) h = tt
