-- A record that was read, written again, gives its own bytes.
use Rattle.std.proofs.Common.{◌≡◌, ℕ, ◌+◌, ◌*◌, ◌/◌, ◌%◌, ◌<◌, ◌≤◌, true, eqb, leb, List, [], ◌∷◌, ◌++◌, length, get_or, take, drop, Ok, Result, sym, ap, ◌∙◌, append_assoc, arith, take-append-drop}
use Rattle.std.proofs.lemmas.List.{drop-drop, drop_more, length-drop}
use Rattle.std.proofs.lemmas.Bool.{and_parts, leb-true, eqb-true}
use Rattle.text.specs.Said.{Said}
use Rattle.envelope.specs.Integers.{u16_at, u32_at}
use Rattle.envelope.specs.Limits.{length_ok}
use Rattle.envelope.specs.Views.{Whole, whole}
use Rattle.envelope.specs.Layout.{next, seen_at, ad_at, df_at, ct_at, rest_at, fields}
use Rattle.envelope.specs.Decoding.{decode}
use Rattle.envelope_reading.proofs.Laws.{field_length, all_checked, all_fit, Fit}
use Rattle.envelope_fields.specs.Plain.{Plain, plain_of}
use Rattle.writing.specs.Encoding.{le16, le32, prefixed, size, encode}
use Rattle.writing.specs.Trips.{Bytes}

low : (x y : ℕ) → x < 256 → (x + y * 256) % 256 ≡ x
low x y h = omega arith

high : (x y : ℕ) → x < 256 → y < 256 → (x + y * 256) / 256 % 256 ≡ y
high x y h k = omega arith

digits : (a b c d : ℕ) → a < 256 → b < 256 → c < 256 → d < 256 →
    let n = a + b * 256 + c * 65536 + d * 16777216 in
    (n % 256 ≡ a) × (n / 256 % 256 ≡ b) × (n / 65536 % 256 ≡ c) × (n / 16777216 % 256 ≡ d)
digits a b c d ha hb hc hd =
    let n = a + b * 256 + c * 65536 + d * 16777216 in
    let e1 : n / 256 ≡ b + c * 256 + d * 65536 = omega arith in
    let e2 : n / 65536 ≡ c + d * 256 = omega arith in
    let e3 : n / 16777216 ≡ d = omega arith in
    let m1 : (b + c * 256 + d * 65536) % 256 ≡ b = omega arith in
    (omega arith, ap (λ x. x % 256) e1 ∙ m1, ap (λ x. x % 256) e2 ∙ low c d hc, ap (λ x. x % 256) e3 ∙ (let z : d % 256 ≡ d = omega arith in z))

module _ (r : List ℕ) (bytes : Bytes r) where
  split1 : (at : ℕ) → at + 1 ≤ length r → drop at r ≡ get_or r at 0 ∷ drop (at + 1) r
  split1 at h = drop_more r at 0 (omega arith)

  split16 : (at : ℕ) → at + 2 ≤ length r → drop at r ≡ le16 (u16_at r at) ++ drop (at + 2) r
  split16 at h =
      let e : drop (at + 1) r ≡ get_or r (at + 1) 0 ∷ drop (at + 1 + 1) r = split1 (at + 1) (omega arith) in
      let p : at + 1 + 1 ≡ at + 2 = omega arith in
      let x = bytes at in
      let y = bytes (at + 1) in
      split1 at (omega arith) ∙ ap (λ t. get_or r at 0 ∷ t) (e ∙ ap (λ n. get_or r (at + 1) 0 ∷ drop n r) p)
      ∙ (λ i. sym (low (get_or r at 0) (get_or r (at + 1) 0) x) i ∷ sym (high (get_or r at 0) (get_or r (at + 1) 0) x y) i ∷ drop (at + 2) r)

  split32 : (at : ℕ) → at + 4 ≤ length r → drop at r ≡ le32 (u32_at r at) ++ drop (at + 4) r
  split32 at h =
      let a = bytes at in let b = bytes (at + 1) in let c = bytes (at + 2) in let d = bytes (at + 3) in
      let e2 : at + 1 + 1 ≡ at + 2 = omega arith in let e3 : at + 2 + 1 ≡ at + 3 = omega arith in let e4 : at + 3 + 1 ≡ at + 4 = omega arith in
      let s1 = split1 (at + 1) (omega arith) ∙ ap (λ n. get_or r (at + 1) 0 ∷ drop n r) e2 in
      let s2 = split1 (at + 2) (omega arith) ∙ ap (λ n. get_or r (at + 2) 0 ∷ drop n r) e3 in
      let s3 = split1 (at + 3) (omega arith) ∙ ap (λ n. get_or r (at + 3) 0 ∷ drop n r) e4 in
      let q = digits (get_or r at 0) (get_or r (at + 1) 0) (get_or r (at + 2) 0) (get_or r (at + 3) 0) a b c d in
      split1 at (omega arith) ∙ ap (λ t. get_or r at 0 ∷ t) (s1 ∙ ap (λ t. get_or r (at + 1) 0 ∷ t) (s2 ∙ ap (λ t. get_or r (at + 2) 0 ∷ t) s3))
      ∙ (λ i. sym q.0 i ∷ sym q.1 i ∷ sym q.2 i ∷ sym q.3 i ∷ drop (at + 4) r)

  split_part : (at n : ℕ) → drop at r ≡ take n (drop at r) ++ drop (at + n) r
  split_part at n = sym (take-append-drop n (drop at r)) ∙ ap (λ t. take n (drop at r) ++ t) (drop-drop n at r)

  split_field : (at : ℕ) → next r at ≤ length r → drop at r ≡ prefixed (seen_at r at).bytes ++ drop (next r at) r
  split_field at h =
      let n = u16_at r at in
      let l = field_length r at h in
      split16 at (omega arith) ∙ ap (λ t. le16 n ++ t) (split_part (at + 2) n)
      ∙ ap (λ m. le16 m ++ (take n (drop (at + 2) r) ++ drop (at + 2 + n) r)) (sym l)
      ∙ sym (append_assoc (le16 (length (take n (drop (at + 2) r)))) (take n (drop (at + 2) r)) (drop (next r at) r))

module _ (r : List ℕ) (bytes : Bytes r) (long : length_ok r ≡ true) (fit : Fit r) where
  abbrev d : Plain
  d = plain_of (whole (u16_at r 2) (u16_at r 12) (fields r))

  least : 49 ≤ length r
  least = leb-true _ _ (and_parts _ _ long).0

  said : u16_at r 0 ≡ length r
  said = eqb-true _ _ (and_parts (leb (length r) 2048) (eqb (u16_at r 0) (length r)) (and_parts (leb 49 (length r)) _ long).1).1

  sized : size d ≡ u16_at r 0
  sized =
      let l1 = field_length r 34 fit.fr in let l2 = field_length r (ad_at r) fit.ad in let l3 = field_length r (df_at r) fit.df in let l4 = field_length r (ct_at r) fit.ct in
      let l5 = length-drop (rest_at r) r in let s = said in
      omega arith

  tail : prefixed d.fr ++ (prefixed d.ad ++ (prefixed d.df ++ (prefixed d.ct ++ d.rest))) ≡ drop 34 r
  tail =
      ap (λ t. prefixed d.fr ++ t) (ap (λ t. prefixed d.ad ++ t) (ap (λ t. prefixed d.df ++ t) (sym (split_field r bytes (ct_at r) fit.ct))
      ∙ sym (split_field r bytes (df_at r) fit.df)) ∙ sym (split_field r bytes (ad_at r) fit.ad)) ∙ sym (split_field r bytes 34 fit.fr)

  head : (t : List ℕ) → t ≡ drop 34 r → le16 (u16_at r 0) ++ (le16 d.kind ++ (le32 d.todt ++ (le16 d.to ++ ((d.ar ∷ d.vb ∷ []) ++ (le16 d.code ++ (d.on ++ t)))))) ≡ r
  head t e =
      let n = least in
      let h7 : d.on ++ t ≡ drop 14 r = ap (λ x. d.on ++ x) e ∙ sym (split_part r bytes 14 20) in
      let h6 = ap (λ x. le16 d.code ++ x) h7 ∙ sym (split16 r bytes 12 (omega arith)) in
      let h5 = ap (λ x. (d.ar ∷ d.vb ∷ []) ++ x) h6 ∙ sym (split1 r bytes 10 (omega arith) ∙ ap (λ x. get_or r 10 0 ∷ x) (split1 r bytes 11 (omega arith))) in
      let h4 = ap (λ x. le16 d.to ++ x) h5 ∙ sym (split16 r bytes 8 (omega arith)) in
      let h3 = ap (λ x. le32 d.todt ++ x) h4 ∙ sym (split32 r bytes 4 (omega arith)) in
      let h2 = ap (λ x. le16 d.kind ++ x) h3 ∙ sym (split16 r bytes 2 (omega arith)) in
      ap (λ x. le16 (u16_at r 0) ++ x) h2 ∙ sym (split16 r bytes 0 (omega arith))

  again : encode d ≡ r
  again = ap (λ n. le16 n ++ (le16 d.kind ++ (le32 d.todt ++ (le16 d.to ++ ((d.ar ∷ d.vb ∷ []) ++ (le16 d.code ++ (d.on ++ (prefixed d.fr ++ (prefixed d.ad ++ (prefixed d.df ++ (prefixed d.ct ++ d.rest))))))))))) sized ∙ head _ tail

pub written_of_read : (r : List ℕ) (w : Whole) → Bytes r → ◌≡◌ {A = Result Whole Said} (decode r) (Ok w) → encode (plain_of w) ≡ r
written_of_read r w bytes h =
    let c = all_checked r w h in
    ap (λ x. encode (plain_of x)) c.is ∙ again r bytes c.long (all_fit r c.none)
