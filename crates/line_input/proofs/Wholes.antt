-- A line stays whole while pieces come in, and when a carriage return is dropped.
use Rattle.std.proofs.Common.{◌≡◌, ℕ, zero, suc, ◌+◌, ◌-◌, ◌≤◌, Bool, true, false, cond, not, eqb, leb, List, [], ◌∷◌, ◌++◌, length, take, refl, ap, ◌∙◌, ⊎_elim, one-add, arith, length-append, length-take}
use Rattle.std.proofs.lemmas.Bool.{and_parts, and_from, cases_Bool, le-leb, leb-true}
use Rattle.words.specs.Cuts.{len_before}
use Rattle.line_input.specs.Kept.{fits, ends_in_return, without_return, no_break, whole}
use Rattle.line_input.specs.Pieces.{before_break, line_after}
use Rattle.line_input.specs.Lines.{settled, lawful}
use Rattle.line_input.specs.declared.input.Got.{Got}
use Rattle.line_input.specs.declared.input.Got.TheVariants.{Line, Long, End}
use Rattle.line_input.specs.declared.piece.Came.{Came}
use Rattle.line_input.specs.declared.piece.Came.TheVariants.{Nothing, Short, Over}

append_clear : (xs ys : List ℕ) → no_break xs ≡ true → no_break ys ≡ true → no_break (xs ++ ys) ≡ true
append_clear [] ys h k = k
append_clear (x ∷ xs) ys h k = let p = and_parts (not (eqb x 10)) (no_break xs) h in and_from (not (eqb x 10)) (no_break (xs ++ ys)) p.0 (append_clear xs ys p.1 k)

take_clear : (n : ℕ) (xs : List ℕ) → no_break xs ≡ true → no_break (take n xs) ≡ true
take_clear zero xs h = refl
take_clear (suc n) [] h = refl
take_clear (suc n) (x ∷ xs) h = let p = and_parts (not (eqb x 10)) (no_break xs) h in and_from (not (eqb x 10)) (no_break (take n xs)) p.0 (take_clear n xs p.1)

before_clear : (held : List ℕ) → no_break (before_break held) ≡ true
before_clear [] = refl
before_clear (b ∷ bs) = ⊎_elim
    (λ e. ap (λ (t : Bool). no_break (take (cond t (1 + len_before 10 bs) 0) (b ∷ bs))) e
    ∙ ap (λ (k : ℕ). no_break (take k (b ∷ bs))) (one-add (len_before 10 bs))
    ∙ and_from (not (eqb b 10)) (no_break (before_break bs)) e (before_clear bs))
    (λ e. ap (λ (t : Bool). no_break (take (cond t (1 + len_before 10 bs) 0) (b ∷ bs))) e)
    (cases_Bool (not (eqb b 10)))

module _ (limit : ℕ) (line : List ℕ) (ok : whole limit line ≡ true) where
  short : length line ≤ limit
  short = leb-true (length line) limit (and_parts (leb (length line) limit) (no_break line) ok).0

  clear : no_break line ≡ true
  clear = (and_parts (leb (length line) limit) (no_break line) ok).1

  whole_kept : (bs : List ℕ) (t : Bool) → fits limit line bs ≡ t → no_break bs ≡ true → whole limit (cond t (line ++ bs) line) ≡ true
  whole_kept bs true e k = and_from (leb (length (line ++ bs)) limit) (no_break (line ++ bs))
      (le-leb (length (line ++ bs)) limit (omega (arith, length-append line bs, leb-true (length line + length bs) limit e)))
      (append_clear line bs clear k)
  whole_kept bs false e k = ok

  pub whole_after : (came : Came) (held : List ℕ) → whole limit (line_after limit came line held) ≡ true
  whole_after Nothing held = whole_kept (before_break held) (fits limit line (before_break held)) refl (before_clear held)
  whole_after Short held = whole_kept (before_break held) (fits limit line (before_break held)) refl (before_clear held)
  whole_after Over held = ok

  whole_cut : (t : Bool) → whole limit (cond t (take (length line - 1) line) line) ≡ true
  whole_cut true = and_from (leb (length (take (length line - 1) line)) limit) (no_break (take (length line - 1) line))
      (le-leb (length (take (length line - 1) line)) limit (omega (arith, short, length-take (length line - 1) line)))
      (take_clear (length line - 1) line clear)
  whole_cut false = ok

  whole_returned : whole limit (without_return line) ≡ true
  whole_returned = whole_cut (ends_in_return line)

pub lawful_settled : (got : Got) (line : List ℕ) → whole 8192 line ≡ true → lawful got (settled got line) ≡ true
lawful_settled Line line ok = whole_returned 8192 line ok
lawful_settled Long line ok = refl
lawful_settled End line ok = refl
