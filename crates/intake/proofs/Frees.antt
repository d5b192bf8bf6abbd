-- The lowest free place of the first places.
use Rattle.std.proofs.Common.{◌≡◌, ℕ, zero, suc, ◌+◌, ◌<◌, List, [], ◌∷◌, take, Some, None, sym, refl, ap, ◌∙◌, arith}
use Rattle.std.specs.List.{slice_get}
use Rattle.standing.specs.Frees.{first_free}
use Rattle.standing.specs.declared.standing.Standing.{Standing}
use Rattle.standing.specs.declared.standing.Standing.TheVariants.{Free, Waiting, Out, Inbox, Notice}

-- place k of ss is free, and none below it
abbrev pub Lowest : List Standing → ℕ → Type 0
Lowest ss k = (slice_get ss k ≡ Some Free) × ((j : ℕ) → j < k → slice_get ss j ≡ Some Free → ⊥)

-- the same of places numbered from i
abbrev LowestFrom : ℕ → List Standing → ℕ → Type 0
LowestFrom i ss p = (k : ℕ) × (p ≡ i + k) × Lowest ss k

absent : {A : Type 0} (x : A) → None ≡ Some x → ⊥
absent x e = let z : ◌≡◌ {A = ℕ} 0 1 = cc in omega arith

-- one place more in front, which is not free
behind : (i p : ℕ) (s : Standing) (ss : List Standing) → (Some s ≡ Some Free → ⊥) → LowestFrom (i + 1) ss p → LowestFrom i (s ∷ ss) p
behind i p s ss n h =
    let k = h.0 in
    let e = h.1 in
    (suc k, omega arith, (h.2.0, below)) where
      below : (j : ℕ) → j < suc h.0 → slice_get (s ∷ ss) j ≡ Some Free → ⊥
      below zero l f = n f
      below (suc j) l f = h.2.1 j (omega arith) f

lowest_from : (i p : ℕ) (ss : List Standing) → first_free i ss ≡ Some p → LowestFrom i ss p
lowest_from i p [] e = absurd (absent p e)
lowest_from i p (Free ∷ ss) e = let z : i ≡ p = cc in (0, omega arith, (refl, λ j l f. absurd (omega arith)))
lowest_from i p (Waiting a b c d ∷ ss) e = behind i p _ ss (λ f. let z : ◌≡◌ {A = ℕ} 0 1 = cc in omega arith) (lowest_from (i + 1) p ss e)
lowest_from i p (Out a b c d f ∷ ss) e = behind i p _ ss (λ g. let z : ◌≡◌ {A = ℕ} 0 1 = cc in omega arith) (lowest_from (i + 1) p ss e)
lowest_from i p (Inbox a b ∷ ss) e = behind i p _ ss (λ f. let z : ◌≡◌ {A = ℕ} 0 1 = cc in omega arith) (lowest_from (i + 1) p ss e)
lowest_from i p (Notice a b ∷ ss) e = behind i p _ ss (λ f. let z : ◌≡◌ {A = ℕ} 0 1 = cc in omega arith) (lowest_from (i + 1) p ss e)

-- a place of the first n is below n and the same place of all
nth_front : {A : Type 0} (n k : ℕ) (xs : List A) (x : A) → slice_get (take n xs) k ≡ Some x → (k < n) × (slice_get xs k ≡ Some x)
nth_front zero k xs x e = absurd (absent x e)
nth_front (suc n) k [] x e = absurd (absent x e)
nth_front (suc n) zero (y ∷ xs) x e = (omega arith, e)
nth_front (suc n) (suc k) (y ∷ xs) x e = let h = nth_front n k xs x e in (omega (arith, h.0), h.1)

front_nth : {A : Type 0} (n k : ℕ) (xs : List A) (x : A) → k < n → slice_get xs k ≡ Some x → slice_get (take n xs) k ≡ Some x
front_nth zero k xs x l e = absurd (omega arith)
front_nth (suc n) k [] x l e = e
front_nth (suc n) zero (y ∷ xs) x l e = e
front_nth (suc n) (suc k) (y ∷ xs) x l e = front_nth n k xs x (omega arith) e

pub lowest_free : (n p : ℕ) (ss : List Standing) → first_free 0 (take n ss) ≡ Some p → (p < n) × Lowest ss p
lowest_free n p ss e = by_place (lowest_from 0 p (take n ss) e) where
  by_place : LowestFrom 0 (take n ss) p → (p < n) × Lowest ss p
  by_place h =
      let k : h.0 ≡ p = let y = h.1 in omega arith in
      let f : slice_get (take n ss) p ≡ Some Free = ap (slice_get (take n ss)) (sym k) ∙ h.2.0 in
      let b = nth_front n p ss Free f in
      (b.0, (b.1, λ j l g. h.2.1 j (omega arith) (front_nth n j ss Free (omega (arith, b.0)) g)))
