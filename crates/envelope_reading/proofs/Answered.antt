-- From the checks of a record, one after the other, to what reading answers.
use Rattle.std.proofs.Common.{◌≡◌, ℕ, true, List, None, Ok, Err, Option, Result, sym, ap, ◌∙◌, arith}
use Rattle.std.proofs.lemmas.Bool.Decides.{nat_tests}
use Rattle.text.specs.Said.{Said}
use Rattle.envelope.specs.Integers.{u16_at}
use Rattle.envelope.specs.Limits.{code_ok}
use Rattle.envelope.specs.Views.{Fields, Whole, whole, kind_number}
use Rattle.envelope.specs.Layout.{rows_of_fixed, fixed_rows, moving_rows, rows, first_broken, fields}
use Rattle.envelope.specs.Results.{and_then, unless}
use Rattle.envelope.specs.Decoding.{checked, decode_kind, decode}
use Rattle.envelope.proofs.Oks.{unless_err, unless_ok}
use Rattle.envelope.proofs.Rows.{broken_front, whole_front, all_ok}
use Rattle.envelope.specs.declared.fixed.Fixed.{Fixed}
use Rattle.envelope_reading.specs.Forms.{FixedIn}

-- the check of the fields that were read at fixed offsets is the record's
pub same_check : (r : List ℕ) (f : Fixed) → FixedIn r f → (x : Result (Unit {0}) Said)
    → x ≡ checked (rows_of_fixed (kind_number f.kind) f.todt f.to f.ar f.vb f.code f.on.now) → x ≡ checked (fixed_rows r)
same_check r f h x e = e ∙ (λ i. checked (rows_of_fixed (h.kind i) (h.todt i) (h.to i) (h.ar i) (h.vb i) (h.code i) (h.on i)))

module _ (r : List ℕ) (k : ℕ) (kind : ◌≡◌ {A = Result ℕ Said} (Ok k) (decode_kind r)) where
  abbrev finish : Option Said → Result Whole Said
  finish o = unless o (whole k (u16_at r 12) (fields r))

  by_rows : finish (first_broken (rows r)) ≡ decode r
  by_rows = ap (λ (x : Result ℕ Said). and_then x (λ n. unless (first_broken (rows r)) (whole n (u16_at r 12) (fields r)))) kind

  pub fixed_broken : (e : Said) → ◌≡◌ {A = Result (Unit {0}) Said} (Err e) (checked (fixed_rows r)) → ◌≡◌ {A = Result Whole Said} (Err e) (decode r)
  fixed_broken e h = sym (ap finish (broken_front (fixed_rows r) (moving_rows r) e (unless_err _ _ e h))) ∙ by_rows

  module _ (fixed : ◌≡◌ {A = Result (Unit {0}) Said} (Ok tt) (checked (fixed_rows r))) where
    none_fixed : first_broken (fixed_rows r) ≡ None
    none_fixed = (unless_ok _ _ _ fixed).0

    pub moving_broken : (e : Said) → ◌≡◌ {A = Result Fields Said} (Err e) (unless (first_broken (moving_rows r)) (fields r)) → ◌≡◌ {A = Result Whole Said} (Err e) (decode r)
    moving_broken e h = sym (ap finish (whole_front (fixed_rows r) (moving_rows r) none_fixed ∙ unless_err _ _ e h)) ∙ by_rows

    pub none_broken : (n c : ℕ) (f : Fields) → n ≡ k → c ≡ u16_at r 12 → ◌≡◌ {A = Result Fields Said} (Ok f) (unless (first_broken (moving_rows r)) (fields r)) → ◌≡◌ {A = Result Whole Said} (Ok (whole n c f)) (decode r)
    none_broken n c f e g h =
        let p = unless_ok _ _ f h in
        (λ i. Ok (whole (e i) (g i) (p.1 i))) ∙ sym (ap finish (whole_front (fixed_rows r) (moving_rows r) none_fixed ∙ p.0)) ∙ by_rows

    -- a message has code 0
    pub no_code : 1 ≡ k → k ≡ u16_at r 2 → 0 ≡ u16_at r 12
    no_code e g = let q : code_ok (u16_at r 2) (u16_at r 12) ≡ true = (all_ok (fixed_rows r) none_fixed).1.1.1.0 in grind (arith, nat_tests)
