-- Reading what was written gives the fields again, with their places.
use Rattle.std.proofs.Common.{◌≡◌, ℕ, ◌+◌, ◌-◌, ◌*◌, ◌/◌, ◌%◌, ◌^◌, ◌<◌, ◌≤◌, Bool, true, ◌&&◌, eqb, leb, List, [], ◌∷◌, ◌++◌, length, get_or, take, drop, None, Ok, Result, sym, refl, ap, ◌∙◌, subst, add-zero, arith, length-append, length-drop}
use Rattle.std.proofs.lemmas.List.{drop-drop, get_or-drop, take_at, drop_at}
use Rattle.std.proofs.lemmas.Bool.{le-leb, eq-eqb, and_from}
use Rattle.std.proofs.lemmas.Bool.Decides.{nat_tests}
use Rattle.text.specs.Forms.{is_address, is_dataflow, is_contacts, is_operation_number}
use Rattle.text.specs.Said.{Said}
use Rattle.envelope.specs.Integers.{u16_at, u32_at}
use Rattle.envelope.specs.Limits.{timeout_ok, code_ok, length_ok, kind_ok}
use Rattle.envelope.specs.Views.{Whole, whole}
use Rattle.envelope.specs.Layout.{row, next, seen_at, ad_at, df_at, ct_at, rest_at, on_in, fits_at, field_ok, first_broken, fields}
use Rattle.envelope.specs.Layout as layout
use Rattle.envelope.specs.Results.{and_then, unless}
use Rattle.envelope.specs.Decoding.{decode_kind, decode}
use Rattle.envelope.proofs.Rows.{all_ok}
use Rattle.envelope_fields.specs.Plain.{Plain}
use Rattle.writing.specs.Encoding.{prefixed, size, encode}
use Rattle.envelope_fields.specs.Forms.{rows, Measured}
use Rattle.writing.specs.Trips.{placed}
use Rattle.envelope_fields.proofs.Measures.{measured}
use Rattle.writing.proofs.Sizes.{least_size, length-encode}

-- fields that can be written: in form, within the greatest length, the timeout within its width
pub record Writable (d : Plain) : Type 0 where
  pub right_kind : kind_ok d.kind ≡ true
  pub in_form : first_broken (rows d) ≡ None
  pub short : size d ≤ 2048
  pub todt_fits : d.todt < 2 ^ 32

back16 : (n : ℕ) → n < 65536 → n % 256 + (n / 256 % 256) * 256 ≡ n
back16 n h = omega arith

back32 : (n : ℕ) → n < 2 ^ 32 → n % 256 + (n / 256 % 256) * 256 + (n / 65536 % 256) * 65536 + (n / 16777216 % 256) * 16777216 ≡ n
back32 n h =
    let e1 : n / 256 ≡ n / 65536 * 256 + n / 256 % 256 = omega arith in
    let e2 : n / 65536 ≡ n / 16777216 * 256 + n / 65536 % 256 = omega arith in
    let e3 : n / 16777216 % 256 ≡ n / 16777216 = omega arith in
    omega arith

-- a field that stands at `at`, with t behind it
pub record Stands (r b t : List ℕ) (at : ℕ) : Type 0 where
  pub long : u16_at r at ≡ length b
  pub bytes : (seen_at r at).bytes ≡ b
  pub behind : drop (next r at) r ≡ t
  pub fits : fits_at r at ≡ true

stands : (r b t : List ℕ) (at : ℕ) → drop at r ≡ prefixed b ++ t → length b < 65536 → Stands r b t at
stands r b t at e h =
    let n = length b in
    let x : get_or r at 0 ≡ n % 256 = ap (λ i. get_or r i 0) (sym (add-zero at)) ∙ sym (get_or-drop at r 0 0) ∙ ap (λ l. get_or l 0 0) e in
    let y : get_or r (at + 1) 0 ≡ n / 256 % 256 = sym (get_or-drop at r 1 0) ∙ ap (λ l. get_or l 1 0) e in
    let long : u16_at r at ≡ n = (λ i. x i + y i * 256) ∙ back16 n h in
    let after : drop (at + 2) r ≡ b ++ t = sym (drop-drop 2 at r) ∙ ap (drop 2) e in
    let bytes : take (u16_at r at) (drop (at + 2) r) ≡ b = (λ i. take (long i) (after i)) ∙ take_at b t n refl in
    let behind : drop (next r at) r ≡ t = sym (drop-drop (u16_at r at) (at + 2) r) ∙ (λ i. drop (long i) (after i)) ∙ drop_at b t n refl in
    let total : length r - at ≡ 2 + (n + length t) = sym (length-drop at r) ∙ ap length e ∙ (let q = length-append b t in omega arith) in
    record { long = long; bytes = bytes; behind = behind; fits = and_from (leb (at + 2) (length r)) (leb (next r at) (length r)) (le-leb (at + 2) (length r) (omega arith)) (le-leb (next r at) (length r) (omega arith)) }

-- a field that stands is in form where its bytes are
stands_ok : {r b t : List ℕ} {at : ℕ} (form : List ℕ → Bool) → Stands r b t at → field_ok form r at ≡ form b
stands_ok {r} {b} {t} {at} form s = (λ i. (s.fits i) && form (s.bytes i))

module _ (d : Plain) (w : Writable d) where
  m : Measured d
  m = measured d w.in_form

  abbrev r : List ℕ
  r = encode d

  abbrev t4 : List ℕ
  t4 = prefixed d.ct ++ d.rest

  abbrev t3 : List ℕ
  t3 = prefixed d.df ++ t4

  abbrev t2 : List ℕ
  t2 = prefixed d.ad ++ t3

  abbrev t1 : List ℕ
  t1 = prefixed d.fr ++ t2

  s1 : Stands r d.fr t2 34
  s1 = stands r d.fr t2 34 (drop_at d.on t1 20 m.on) (omega (arith, m.fr))

  s2 : Stands r d.ad t3 (ad_at r)
  s2 = stands r d.ad t3 (ad_at r) s1.behind (omega (arith, m.ad))

  s3 : Stands r d.df t4 (df_at r)
  s3 = stands r d.df t4 (df_at r) s2.behind (omega (arith, m.df))

  s4 : Stands r d.ct d.rest (ct_at r)
  s4 = stands r d.ct d.rest (ct_at r) s3.behind (omega (arith, m.ct))

  ad_offset : ad_at r ≡ 36 + length d.fr
  ad_offset = ap (λ n. 36 + n) s1.long

  df_offset : df_at r ≡ 38 + length d.fr + length d.ad
  df_offset = let a = ad_offset in let l = s2.long in omega arith

  ct_offset : ct_at r ≡ 40 + length d.fr + length d.ad + length d.df
  ct_offset = let a = df_offset in let l = s3.long in omega arith

  rest_offset : rest_at r ≡ 42 + length d.fr + length d.ad + length d.df + length d.ct
  rest_offset = let a = ct_offset in let l = s4.long in omega arith

  kind_is : u16_at r 2 ≡ d.kind
  kind_is = let k = w.right_kind in let b : d.kind ≤ 2 = grind (arith, nat_tests) in back16 d.kind (omega arith)

  to_is : u16_at r 8 ≡ d.to
  to_is = let p = (all_ok (rows d) w.in_form).0 in let b : d.to ≤ 600 = grind (arith, nat_tests) in back16 d.to (omega arith)

  code_is : u16_at r 12 ≡ d.code
  code_is = let p = (all_ok (rows d) w.in_form).1.1.1.0 in let b : d.code ≤ 499 = grind (arith, nat_tests) in back16 d.code (omega arith)

  todt_is : u32_at r 4 ≡ d.todt
  todt_is = back32 d.todt w.todt_fits

  on_is : take 20 (drop 14 r) ≡ d.on
  on_is = take_at d.on t1 20 m.on

  on_ok : is_operation_number (take 20 (drop 14 r)) ≡ is_operation_number d.on
  on_ok = ap is_operation_number on_is

  -- the same rows, so fields and the record that they make break at the same field and place
  rows_same : layout.rows r ≡ rows d
  rows_same = λ i.
      row 4 8 (timeout_ok (to_is i) (todt_is i)) ∷ row 5 10 (leb d.ar 1) ∷ row 6 11 (leb d.vb 4) ∷ row 7 12 (code_ok (kind_is i) (code_is i)) ∷ row 8 14 (on_ok i)
      ∷ row 9 34 (stands_ok is_address s1 i) ∷ row 10 (ad_offset i) (stands_ok is_address s2 i) ∷ row 11 (df_offset i) (stands_ok is_dataflow s3 i) ∷ row 12 (ct_offset i) (stands_ok is_contacts s4 i) ∷ []

  long_ok : length_ok r ≡ true
  long_ok =
      let s = length-encode d m in let l = least_size d w.in_form in let h = w.short in
      let u : u16_at r 0 ≡ size d = back16 (size d) (omega arith) in
      and_from (leb 49 (length r)) (leb (length r) 2048 && eqb (u16_at r 0) (length r)) (le-leb _ _ (subst (λ n. 49 ≤ n) (sym s) l))
      (and_from (leb (length r) 2048) (eqb (u16_at r 0) (length r)) (le-leb _ _ (subst (λ n. n ≤ 2048) (sym s) h)) (eq-eqb _ _ (u ∙ sym s)))

  fields_same : whole (u16_at r 2) (u16_at r 12) (fields r) ≡ placed d
  fields_same = λ i. whole (kind_is i) (code_is i) (record {
    todt = todt_is i;
    to = to_is i;
    ar = d.ar;
    vb = d.vb;
    on = record { bytes = on_is i; at = 14 };
    fr = record { bytes = s1.bytes i; at = 36 };
    ad = record { bytes = s2.bytes i; at = (ap (λ n. n + 2) ad_offset ∙ e1) i };
    df = record { bytes = s3.bytes i; at = (ap (λ n. n + 2) df_offset ∙ e2) i };
    ct = record { bytes = s4.bytes i; at = (ap (λ n. n + 2) ct_offset ∙ e3) i };
    rest = record { bytes = s4.behind i; at = rest_offset i };
  })
    where
      e1 : 36 + length d.fr + 2 ≡ 38 + length d.fr
      e1 = omega arith

      e2 : 38 + length d.fr + length d.ad + 2 ≡ 40 + length d.fr + length d.ad
      e2 = omega arith

      e3 : 40 + length d.fr + length d.ad + length d.df + 2 ≡ 42 + length d.fr + length d.ad + length d.df
      e3 = omega arith

  pub read_of_written : ◌≡◌ {A = Result Whole Said} (decode r) (Ok (placed d))
  read_of_written =
      let k : kind_ok (u16_at r 2) ≡ true = ap kind_ok kind_is ∙ w.right_kind in
      let l = long_ok in
      let kind : decode_kind r ≡ Ok (u16_at r 2) = rw (l, k) in
      let none : first_broken (layout.rows r) ≡ None = ap first_broken rows_same ∙ w.in_form in
      (λ i. and_then (kind i) (λ n. unless (none i) (whole n (u16_at r 12) (fields r)))) ∙ ap Ok fields_same
