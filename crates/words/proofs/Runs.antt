-- The words of a line, cut off one by one.
use Rattle.std.proofs.Common.{◌≡◌, ℕ, suc, ◌+◌, ◌<◌, Bool, true, false, cond, not, ◌||◌, eqb, List, [], ◌∷◌, ◌++◌, length, take, drop, sym, refl, ap, ◌∙◌, ⊎_elim, append_assoc, append-nil, one-add, arith}
use Rattle.std.specs.List.{prefix_len}
use Rattle.std.proofs.lemmas.Bool.{both_ways, not-true, cases_Bool, eqb-true, eqb-false, or_parts}
use Rattle.words.specs.Cuts.{is_gap, in_word, goes_on, onto, runs, from_word, first_word, after_word, is_comment, ends_words, uncommented, words_of}

-- a gap in front is passed over
from_gap : (b : ℕ) (bs : List ℕ) → is_gap b ≡ true → from_word (b ∷ bs) ≡ from_word bs
from_gap b bs e = ap (λ (t : Bool). drop (cond t (1 + prefix_len is_gap bs) 0) (b ∷ bs)) e ∙ ap (λ (k : ℕ). drop k (b ∷ bs)) (one-add (prefix_len is_gap bs))

from_word_lem : (b : ℕ) (bs : List ℕ) → is_gap b ≡ false → from_word (b ∷ bs) ≡ b ∷ bs
from_word_lem b bs e = ap (λ (t : Bool). drop (cond t (1 + prefix_len is_gap bs) 0) (b ∷ bs)) e

runs_gap : (b : ℕ) (bs : List ℕ) → is_gap b ≡ true → runs (b ∷ bs) ≡ runs bs
runs_gap b bs e = ap (λ (t : Bool). cond t (runs bs) (cond (goes_on bs) (onto b (runs bs)) ((b ∷ []) ∷ runs bs))) e

runs_word : (b : ℕ) (bs : List ℕ) (on : Bool) → is_gap b ≡ false → goes_on bs ≡ on → runs (b ∷ bs) ≡ cond on (onto b (runs bs)) ((b ∷ []) ∷ runs bs)
runs_word b bs on e f = λ i. cond (e i) (runs bs) (cond (f i) (onto b (runs bs)) ((b ∷ []) ∷ runs bs))

gaps_off : (bs : List ℕ) → runs bs ≡ runs (from_word bs)
gaps_off [] = refl
gaps_off (b ∷ bs) = ⊎_elim (λ e. runs_gap b bs e ∙ gaps_off bs ∙ sym (ap runs (from_gap b bs e))) (λ e. sym (ap runs (from_word_lem b bs e))) (cases_Bool (is_gap b))

-- past the gaps stands a word, or nothing
from_none : (bs : List ℕ) → goes_on (from_word bs) ≡ false → from_word bs ≡ []
from_none [] h = refl
from_none (b ∷ bs) h = ⊎_elim
    (λ e. from_gap b bs e ∙ from_none bs (sym (ap goes_on (from_gap b bs e)) ∙ h))
    (λ e. absurd (both_ways (goes_on (from_word (b ∷ bs))) h (ap goes_on (from_word_lem b bs e) ∙ ap not e)))
    (cases_Bool (is_gap b))

lead_on : (b : ℕ) (bs : List ℕ) → in_word b ≡ true → prefix_len in_word (b ∷ bs) ≡ suc (prefix_len in_word bs)
lead_on b bs e = ap (λ (t : Bool). cond t (1 + prefix_len in_word bs) 0) e ∙ one-add (prefix_len in_word bs)

lead_off : (bs : List ℕ) → goes_on bs ≡ false → prefix_len in_word bs ≡ 0
lead_off [] h = refl
lead_off (b ∷ bs) h = ap (λ (t : Bool). cond t (1 + prefix_len in_word bs) 0) h

-- a word at the front, and the runs after it
front : (bs : List ℕ) → goes_on bs ≡ true → runs bs ≡ take (prefix_len in_word bs) bs ∷ runs (drop (prefix_len in_word bs) bs)
front [] h = absurd (both_ways (goes_on []) refl h)
front (b ∷ bs) h =
    let gap : is_gap b ≡ false = not-true (is_gap b) h in
    let back = sym (ap (λ (k : ℕ). take k (b ∷ bs) ∷ runs (drop k (b ∷ bs))) (lead_on b bs h)) in
    ⊎_elim
    (λ on. runs_word b bs true gap on ∙ ap (onto b) (front bs on) ∙ back)
    (λ off. runs_word b bs false gap off ∙ sym (ap (λ (k : ℕ). (b ∷ take k bs) ∷ runs (drop k bs)) (lead_off bs off)) ∙ back)
    (cases_Bool (goes_on bs))

front_some : (bs : List ℕ) → goes_on bs ≡ true → 0 < length (take (prefix_len in_word bs) bs)
front_some [] h = absurd (both_ways (goes_on []) refl h)
front_some (b ∷ bs) h = let e = ap (λ (k : ℕ). length (take k (b ∷ bs))) (lead_on b bs h) in omega (arith, e)

no_word : (bs : List ℕ) → length (first_word bs) ≡ 0 → runs bs ≡ []
no_word bs z = ⊎_elim
    (λ on. absurd (omega (arith, front_some (from_word bs) on)))
    (λ off. gaps_off bs ∙ ap runs (from_none bs off))
    (cases_Bool (goes_on (from_word bs)))

one_word : (bs : List ℕ) → 0 < length (first_word bs) → runs bs ≡ first_word bs ∷ runs (after_word bs)
one_word bs some = ⊎_elim
    (λ on. gaps_off bs ∙ front (from_word bs) on)
    (λ off. absurd (omega (arith, ap (λ (xs : List ℕ). length (take (prefix_len in_word xs) xs)) (from_none bs off))))
    (cases_Bool (goes_on (from_word bs)))

module _ (bs w : List ℕ) (first : w ≡ first_word bs) where
  none : length w ≡ 0 → words_of bs ≡ []
  none z = ap uncommented (no_word bs (sym (ap length first) ∙ z))

  next : 0 < length w → (comment : Bool) → is_comment w ≡ comment → words_of bs ≡ cond comment [] (w ∷ words_of (after_word bs))
  next some comment e =
      ap uncommented (one_word bs (omega (arith, ap length first)))
      ∙ ap (λ (v : List ℕ). cond (is_comment v) [] (v ∷ words_of (after_word bs))) (sym first)
      ∙ ap (λ (t : Bool). cond t [] (w ∷ words_of (after_word bs))) e

  -- the words end
  pub words_end : ends_words w ≡ true → words_of bs ≡ []
  words_end e = ⊎_elim
      (λ z. none (eqb-true (length w) 0 z))
      (λ z. let some = eqb-false (length w) 0 z in next (omega arith) true (sym (ap (λ (t : Bool). t || is_comment w) z) ∙ e))
      (cases_Bool (eqb (length w) 0))

  module _ (goes : ends_words w ≡ false) (rest : List ℕ) (after : rest ≡ after_word bs) where
    some : 0 < length w
    some = let z = eqb-false (length w) 0 (or_parts (eqb (length w) 0) (is_comment w) goes).0 in omega arith

    -- one word more
    pub words_more : words_of bs ≡ w ∷ words_of rest
    words_more = next some false (or_parts (eqb (length w) 0) (is_comment w) goes).1 ∙ ap (λ (r : List ℕ). w ∷ words_of r) (sym after)

-- the words so far, when one more is cut off, and when there is none more
pub so_far_more : (ws : List (List ℕ)) (w : List ℕ) (bs rest line : List ℕ) → words_of bs ≡ w ∷ words_of rest → ws ++ words_of bs ≡ words_of line → (ws ++ (w ∷ [])) ++ words_of rest ≡ words_of line
so_far_more ws w bs rest line e inv = append_assoc ws (w ∷ []) (words_of rest) ∙ ap (λ (vs : List (List ℕ)). ws ++ vs) (sym e) ∙ inv

pub so_far_all : (ws : List (List ℕ)) (bs line : List ℕ) → words_of bs ≡ [] → ws ++ words_of bs ≡ words_of line → ws ≡ words_of line
so_far_all ws bs line e inv = sym (append-nil ws) ∙ ap (λ (vs : List (List ℕ)). ws ++ vs) (sym e) ∙ inv
