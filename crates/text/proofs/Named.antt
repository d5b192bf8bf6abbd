-- The first name of an address, and the others.
use Rattle.std.proofs.Common.{◌≡◌, ℕ, suc, ◌<◌, ◌≤◌, Bool, true, false, cond, eqb, List, [], ◌∷◌, length, take, drop, sym, refl, ap, ◌∙◌, ⊎_elim, arith}
use Rattle.std.proofs.lemmas.List.{take_all}
use Rattle.std.proofs.lemmas.Bool.{cases_lt}
use Rattle.text.specs.Names.{names, onto, name_len}

le_at : (q : Bool) (n k : ℕ) → n ≤ k → cond q 0 (suc n) ≤ suc k
le_at true n k h = omega arith
le_at false n k h = omega arith

pub len_le : (s : List ℕ) → name_len s ≤ length s
len_le [] = omega arith
len_le (b ∷ bs) = le_at (eqb b 58) (name_len bs) (length bs) (len_le bs)

one_at : (q : Bool) (b : ℕ) (bs : List ℕ) → cond q 0 (suc (name_len bs)) ≡ suc (length bs) → (name_len bs ≡ length bs → names bs ≡ bs ∷ []) → cond q ([] ∷ names bs) (onto b (names bs)) ≡ (b ∷ bs) ∷ []
one_at true b bs h ih = absurd (omega arith)
one_at false b bs h ih = ap (onto b) (ih (omega arith))

names_one : (s : List ℕ) → name_len s ≡ length s → names s ≡ s ∷ []
names_one [] h = refl
names_one (b ∷ bs) h = one_at (eqb b 58) b bs h (names_one bs)

more_at : (q : Bool) (b : ℕ) (bs : List ℕ) → cond q 0 (suc (name_len bs)) < suc (length bs) → (name_len bs < length bs → names bs ≡ take (name_len bs) bs ∷ names (drop (suc (name_len bs)) bs))
    → cond q ([] ∷ names bs) (onto b (names bs)) ≡ take (cond q 0 (suc (name_len bs))) (b ∷ bs) ∷ names (drop (suc (cond q 0 (suc (name_len bs)))) (b ∷ bs))
more_at true b bs h ih = refl
more_at false b bs h ih = ap (onto b) (ih (omega arith))

names_more : (s : List ℕ) → name_len s < length s → names s ≡ take (name_len s) s ∷ names (drop (suc (name_len s)) s)
names_more [] h = absurd (omega arith)
names_more (b ∷ bs) h = more_at (eqb b 58) b bs h (names_more bs)

pub names_head : (s : List ℕ) → (ns : List (List ℕ)) × (names s ≡ take (name_len s) s ∷ ns)
names_head s = let h = len_le s in ⊎_elim (λ l. (names (drop (suc (name_len s)) s), names_more s l)) (λ l. let e : name_len s ≡ length s = omega arith in ([], names_one s e ∙ ap (λ x. x ∷ []) (sym (take_all (name_len s) s l)))) (cases_lt (name_len s) (length s))
