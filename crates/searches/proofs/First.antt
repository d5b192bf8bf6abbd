-- What `earliest` finds, in words of places and times.
use Rattle.std.proofs.Common.{◌≡◌, ℕ, zero, suc, ◌+◌, ◌<◌, ◌≤◌, List, [], ◌∷◌, length, Some, None, Option, refl, subst, ⊎_elim, arith}
use Rattle.std.proofs.lemmas.Bool.Decides.{leb_tells}
use Rattle.standing.specs.declared.standing.Standing.{Standing}
use Rattle.searches.specs.declared.search.Found.{Found}
use Rattle.searches.specs.Earliest.{Wanted, time_of, earlier, earliest, Wants, FirstOf}

-- the same of places numbered from i
abbrev FirstFrom : Wanted → ℕ → List Standing → Option Found → Type 0
FirstFrom w i ss None = (k d : ℕ) → Wants w ss k d → ⊥
FirstFrom w i ss (Some r) =
    ((p : ℕ) × (r.place ≡ i + p) × Wants w ss p r.time)
    × ((k d : ℕ) → Wants w ss k d → (r.time ≤ d) × (r.time ≡ d → r.place ≤ i + k))

-- a place of s ∷ ss is the first or one of ss
split : (w : Wanted) (s : Standing) (ss : List Standing) (P : ℕ → ℕ → Type 0) → ((d : ℕ) → time_of w s ≡ Some d → P 0 d) → ((k d : ℕ) → Wants w ss k d → P (suc k) d) → (k d : ℕ) → Wants w (s ∷ ss) k d → P k d
split w s ss P z f zero d h = z d h.1
split w s ss P z f (suc k) d h = let l : k < length ss = omega arith in f k d (l, h.1)

-- the time is one
same : (o : Option ℕ) (a b : ℕ) → o ≡ Some a → o ≡ Some b → a ≡ b
same o a b p q = cc

never : (o : Option ℕ) (a : ℕ) → o ≡ None → o ≡ Some a → ⊥
never o a p q = let z : ◌≡◌ {A = ℕ} 0 1 = cc in omega arith

module _ (w : Wanted) (i : ℕ) (s : Standing) (ss : List Standing) where
  -- the first place is not looked for, or comes later than what the rest has
  keeps : (r : Found) → ((d : ℕ) → time_of w s ≡ Some d → r.time < d) → FirstFrom w (i + 1) ss (Some r) → FirstFrom w i (s ∷ ss) (Some r)
  keeps r q h =
      let p = h.0.0 in
      let e = h.0.1 in
      let l = h.0.2.0 in (
        (suc p, omega arith, (omega arith, h.0.2.1)),
        split w s ss (λ k d. (r.time ≤ d) × (r.time ≡ d → r.place ≤ i + k))
            (λ d f. let z = q d f in (omega arith, λ y. omega arith))
            (λ k d f. let z = h.1 k d f in (z.0, λ y. let x = z.1 y in omega arith)),
      )

  takes : (d : ℕ) → time_of w s ≡ Some d → ((k d' : ℕ) → Wants w ss k d' → d ≤ d') → FirstFrom w i (s ∷ ss) (Some (record { place = i; time = d }))
  takes d e h = (
    (0, omega arith, (omega arith, e)),
    split w s ss (λ k d'. (d ≤ d') × (d ≡ d' → i ≤ i + k))
        (λ d' f. let z = same (time_of w s) d d' e f in (omega arith, λ y. omega arith))
        (λ k d' f. (h k d' f, λ y. omega arith)),
  )

  step : (o : Option ℕ) (r : Option Found) → time_of w s ≡ o → FirstFrom w (i + 1) ss r → FirstFrom w i (s ∷ ss) (earlier i o r)
  step None None e h = split w s ss (λ k d. ⊥) (λ d f. never (time_of w s) d e f) h
  step None (Some r) e h = keeps r (λ d f. absurd (never (time_of w s) d e f)) h
  step (Some d) None e h = takes d e (λ k d' f. absurd (h k d' f))
  step (Some d) (Some r) e h =
      ⊎_elim
      (λ c. rw c.0 (takes d e (λ k d' f. let z = (h.1 k d' f).0 in let y = c.1 in omega arith)))
      (λ c. rw c.0 (keeps r (λ d' f. let z = same (time_of w s) d d' e f in let y = c.1 in omega arith) h))
      (leb_tells d r.time)

first_from : (w : Wanted) (i : ℕ) (ss : List Standing) → FirstFrom w i ss (earliest w i ss)
first_from w i [] = λ k d h. omega arith
first_from w i (s ∷ ss) = step w i s ss (time_of w s) (earliest w (i + 1) ss) refl (first_from w (i + 1) ss)

-- places counted from 0
from_0 : (w : Wanted) (ss : List Standing) (r : Option Found) → FirstFrom w 0 ss r → FirstOf w ss r
from_0 w ss None h = h
from_0 w ss (Some r) h =
    let p = h.0.0 in
    let e : p ≡ r.place = let y = h.0.1 in omega arith in
    (subst (λ k. Wants w ss k r.time) e h.0.2, λ k d f. let z = h.1 k d f in (z.0, λ y. let x = z.1 y in omega arith))

pub first_of : (w : Wanted) (ss : List Standing) (r : Option Found) → r ≡ earliest w 0 ss → FirstOf w ss r
first_of w ss r e = rw e (from_0 w ss (earliest w 0 ss) (first_from w 0 ss))
