-- A text with zeros after it.
use Rattle.std.proofs.Common.{◌≡◌, ℕ, ◌-◌, ◌<◌, ◌≤◌, min, List, ◌++◌, length, take, drop, replicate, sym, refl, ap, ◌∙◌, ⊎_elim, arith}
use Rattle.std.proofs.lemmas.List.{take_at, take_all, drop-replicate}
use Rattle.std.proofs.lemmas.Bool.{cases_lt}
use Rattle.text.specs.Padding.{padded}

-- as many bytes as there are, or as there is room for
front : (bs : List ℕ) (n i : ℕ) → i ≡ min n (length bs) → take i bs ≡ take n bs
front bs n i e =
    ⊎_elim
    (λ (h : n < length bs). ap (λ m. take m bs) (omega arith))
    (λ (h : length bs ≤ n). take_all i bs (omega arith) ∙ sym (take_all n bs (omega arith)))
    (cases_lt n (length bs))

rest : (n i m : ℕ) → n - i ≡ m → drop i (replicate {A = ℕ} n 0) ≡ replicate m 0
rest n i m e = rw drop-replicate (ap (λ k. replicate k 0) e)

-- the bytes, written over the front of as many zeros as there is room for
pub pad_all : (bs : List ℕ) (n i : ℕ) → i ≡ min n (length bs) → take i bs ++ drop i (replicate {A = ℕ} n 0) ≡ padded n bs
unfolding padded
pad_all bs n i e = λ j. front bs n i e j ++ rest n i (n - length bs) (omega arith) j

pub take-padded : (bs : List ℕ) (n : ℕ) → length bs ≤ n → take (length bs) (padded n bs) ≡ bs
unfolding padded
take-padded bs n h = ap (λ t. take (length bs) (t ++ replicate (n - length bs) 0)) (take_all n bs h) ∙ take_at bs _ (length bs) refl
