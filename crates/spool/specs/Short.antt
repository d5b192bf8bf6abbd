-- No place holds more than 2,048 bytes, and how that passes to lists made from others.
use Rattle.std.specs.Prelude.{ℕ, zero, suc, ◌-◌, ◌≤◌, List, [], ◌∷◌, ◌++◌, map, length, take, refl}
use Rattle.std.proofs.Common.{arith, ap, inl, inr}
use Rattle.std.proofs.lemmas.List.{get_or-take, get_or_past, get_or_append_left, get_or-append_right, length-take}
use Rattle.std.proofs.lemmas.Bool.{cases_lt}
use Rattle.spool.specs.Meaning.{at}

abbrev pub Short : List (List ℕ) → Type 0
Short m = (p : ℕ) → length (at p m) ≤ 2048

pub short_map : {X : Type 0} (f : X → List ℕ) → ((x : X) → length (f x) ≤ 2048) → (xs : List X) → Short (map f xs)
short_map f h [] p = omega arith
short_map f h (x ∷ xs) zero = h x
short_map f h (x ∷ xs) (suc p) = short_map f h xs p

pub short_take : (n : ℕ) (m : List (List ℕ)) → Short m → Short (take n m)
short_take n m h p =
    elim (cases_lt p n) [
      | inl l ↦ omega (arith, ap length (get_or-take n m p [] l), h p)
      | inr l ↦ omega (arith, ap length (get_or_past (take n m) p [] (omega (arith, length-take n m))))
    ]

pub short_append : (a b : List (List ℕ)) → Short a → Short b → Short (a ++ b)
short_append a b ha hb p =
    elim (cases_lt p (length a)) [
      | inl l ↦ omega (arith, ap length (get_or_append_left a b [] p l), ha p)
      | inr l ↦ omega (arith, ap length (get_or-append_right a b (length a) p [] refl l), hb (p - length a))
    ]
