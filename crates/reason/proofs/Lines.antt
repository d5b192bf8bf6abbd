-- The search of a sheet, line by line.
use Rattle.std.proofs.Common.{◌≡◌, ℕ, zero, suc, ◌+◌, ◌-◌, ◌≤◌, Bool, true, false, cond, eqb, leb, List, length, take, drop, IfSome, Some, None, Option, sym, refl, ap, ◌∙◌, arith}
use Rattle.std.proofs.lemmas.Bool.{and_parts, leb-true, eqb-true, eqb-false, true≢false}
use Rattle.std.proofs.lemmas.List.{length-take, length-drop}
use Rattle.envelope.specs.Views.{Seen}
use Rattle.envelope.specs.Lawful.{PartOf}
use Rattle.reason.specs.Sheets.{Lined, line_at, length_at, code_at, text_at, stands_at, text_from, text_of, First, ended, here, later}

module _ (sheet : List ℕ) where
  -- what a line that stands is long, and where it ends
  pub stands_is : (at : ℕ) → stands_at sheet at ≡ true → (4 ≤ length_at sheet at) × (at + length_at sheet at ≤ length sheet)
  stands_is at e = let p = and_parts (leb 4 (length_at sheet at)) (leb (at + length_at sheet at) (length sheet)) e in
      (leb-true 4 (length_at sheet at) p.0, leb-true (at + length_at sheet at) (length sheet) p.1)

  none_past : (at : ℕ) → length sheet ≤ at → (b : Bool) → stands_at sheet at ≡ b → b ≡ false
  none_past at h false e = refl
  none_past at h true e = let s = stands_is at e in absurd (let x = s.0 in let y = s.1 in omega arith)

  -- the line at `at`, where one stands
  abbrev pub whole_line : ℕ → Lined
  whole_line at = record { code = code_at sheet at; text = text_at sheet at; next = at + length_at sheet at }

  line_by : (at : ℕ) (l : Lined) (b : Bool) → stands_at sheet at ≡ b → ◌≡◌ {A = Option Lined} (Some l) (cond b (Some (whole_line at)) None)
      → (stands_at sheet at ≡ true) × (l ≡ whole_line at)
  line_by at l true e h = (e, cc)
  line_by at l false e h = let z : ◌≡◌ {A = ℕ} 0 1 = cc in absurd (omega arith)

  -- a line that was read stands there
  pub line_is : (at : ℕ) (l : Lined) → ◌≡◌ {A = Option Lined} (Some l) (line_at sheet at) → (stands_at sheet at ≡ true) × (l ≡ whole_line at)
  line_is at l h = line_by at l (stands_at sheet at) refl h

  no_line_by : (at : ℕ) (b : Bool) → stands_at sheet at ≡ b → ◌≡◌ {A = Option Lined} None (cond b (Some (whole_line at)) None) → stands_at sheet at ≡ false
  no_line_by at false e h = e
  no_line_by at true e h = let z : ◌≡◌ {A = ℕ} 0 1 = cc in absurd (omega arith)

  pub no_line : (at : ℕ) → ◌≡◌ {A = Option Lined} None (line_at sheet at) → stands_at sheet at ≡ false
  no_line at h = no_line_by at (stands_at sheet at) refl h

  module _ (code : ℕ) where
    -- one line, by what the two tests say of it
    by_tests : (at n : ℕ) (b q : Bool) → stands_at sheet at ≡ b → eqb (code_at sheet at) code ≡ q →
        (b ≡ true → First sheet code (at + length_at sheet at) (text_from n sheet code (at + length_at sheet at)))
        → First sheet code at (cond b (cond q (Some (text_at sheet at)) (text_from n sheet code (at + length_at sheet at))) None)
    by_tests at n false q e f h = ended e
    by_tests at n true true e f h = here e (eqb-true (code_at sheet at) code f)
    by_tests at n true false e f h = later e (eqb-false (code_at sheet at) code f) (h refl)

    -- with turns enough for what is left of the sheet
    first_from : (n at : ℕ) → length sheet ≤ at + n → First sheet code at (text_from n sheet code at)
    first_from zero at h = ended (none_past at (omega arith) (stands_at sheet at) refl)
    first_from (suc n) at h = by_tests at n (stands_at sheet at) (eqb (code_at sheet at) code) refl refl
        (λ e. let s = stands_is at e in let x = s.0 in first_from n (at + length_at sheet at) (omega arith))

    both : {X : Type 0} (b : Bool) → b ≡ true → b ≡ false → X
    both b e f = absurd (true≢false (sym e ∙ f))

    -- a sheet has one first line
    same : {at : ℕ} {o p : Option Seen} → First sheet code at o → First sheet code at p → o ≡ p
    same (ended e) (ended f) = refl
    same {at} (ended e) (here f g) = both (stands_at sheet at) f e
    same {at} (ended e) (later f g h) = both (stands_at sheet at) f e
    same {at} (here e c) (ended f) = both (stands_at sheet at) e f
    same (here e c) (here f g) = refl
    same (here e c) (later f g h) = absurd (g c)
    same {at} (later e c k) (ended f) = both (stands_at sheet at) e f
    same (later e c k) (here f g) = absurd (c g)
    same (later e c k) (later f g h) = same k h

    pub first_is : First sheet code 0 (text_of sheet code)
    first_is = first_from (length sheet) 0 (omega arith)

    pub only_first : (o : Option Seen) → First sheet code 0 o → o ≡ text_of sheet code
    only_first o h = same h first_is

  -- the text of a line that stands is a part of the sheet
  text_part : (at : ℕ) → stands_at sheet at ≡ true → PartOf sheet (text_at sheet at)
  text_part at e =
      let s = stands_is at e in
      let x = s.0 in
      let y = s.1 in
      let l = length-take (length_at sheet at - 4) (drop (at + 4) sheet) in
      let m = length-drop (at + 4) sheet in
      let k : length (text_at sheet at).bytes ≡ length_at sheet at - 4 = omega arith in
      record { within = omega arith; bytes = ap (λ n. take n (drop (at + 4) sheet)) (sym k) }

  first_part : {code at : ℕ} {o : Option Seen} → First sheet code at o → IfSome o (PartOf sheet)
  first_part (ended e) = tt
  first_part {code} {at} (here e c) = text_part at e
  first_part (later e c k) = first_part k

  pub line_part : (code : ℕ) → IfSome (text_of sheet code) (PartOf sheet)
  line_part code = first_part (first_is code)
