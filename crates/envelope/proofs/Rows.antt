-- The first broken row of two tables, one after the other.
use Rattle.std.proofs.Common.{◌≡◌, ℕ, Bool, true, false, cond, List, [], ◌∷◌, ◌++◌, Some, None, Ok, Err, Option, Result, sym, refl, ap, ◌∙◌, arith}
use Rattle.text.specs.Said.{Said, says}
use Rattle.envelope.specs.Layout.{Row, first_broken}
use Rattle.envelope.specs.Results.{unless}
use Rattle.envelope.specs.Decoding.{checked}
use Rattle.envelope.proofs.Oks.{unless_err, unless_ok}

pass_on : (b : Bool) (o q p : Option Said) (f : Said) → cond b o p ≡ Some f → (o ≡ Some f → q ≡ Some f) → cond b q p ≡ Some f
pass_on true o q p f h g = g h
pass_on false o q p f h g = h

-- a broken row in front is the first of all
pub broken_front : (xs ys : List Row) (f : Said) → first_broken xs ≡ Some f → first_broken (xs ++ ys) ≡ Some f
broken_front [] ys f h = let z : ◌≡◌ {A = ℕ} 0 1 = cc in absurd (omega arith)
broken_front (x ∷ xs) ys f h = pass_on x.ok _ _ _ f h (broken_front xs ys f)

front_ok : (b : Bool) (o : Option Said) (f : Said) → cond b o (Some f) ≡ None → (b ≡ true) × (o ≡ None)
front_ok true o f h = (refl, h)
front_ok false o f h = let z : ◌≡◌ {A = ℕ} 0 1 = cc in absurd (omega arith)

-- rows in form are passed over
pub whole_front : (xs ys : List Row) → first_broken xs ≡ None → first_broken (xs ++ ys) ≡ first_broken ys
whole_front [] ys h = refl
whole_front (x ∷ xs) ys h = let p = front_ok x.ok (first_broken xs) _ h in
    ap (λ b. cond b (first_broken (xs ++ ys)) (Some (says 403 (x.field ∷ x.start ∷ [])))) p.0 ∙ whole_front xs ys p.1

abbrev pub AllOk : List Row → Type 0
AllOk [] = Unit {0}
AllOk (x ∷ xs) = (x.ok ≡ true) × AllOk xs

pub all_ok : (xs : List Row) → first_broken xs ≡ None → AllOk xs
all_ok [] h = tt
all_ok (x ∷ xs) h = let p = front_ok x.ok (first_broken xs) _ h in (p.0, all_ok xs p.1)

-- the same of an answer
pub refused_front : (xs ys : List Row) (e : Said) → ◌≡◌ {A = Result (Unit {0}) Said} (Err e) (checked xs) → ◌≡◌ {A = Result (Unit {0}) Said} (Err e) (checked (xs ++ ys))
refused_front xs ys e h = sym (ap (λ o. unless o tt) (broken_front xs ys e (unless_err _ _ e h)))

pub passed_front : (xs ys : List Row) → ◌≡◌ {A = Result (Unit {0}) Said} (Ok tt) (checked xs) → checked ys ≡ checked (xs ++ ys)
passed_front xs ys h = sym (ap (λ o. unless o tt) (whole_front xs ys (unless_ok _ _ _ h).0))
