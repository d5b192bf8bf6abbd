-- What an answer that is `Ok` tells of the checks that it came through.
use Rattle.std.proofs.Common.{◌≡◌, ℕ, Bool, true, false, cond, Some, None, Ok, Err, Option, Result, sym, refl, arith}
use Rattle.text.specs.Said.{Said}
use Rattle.envelope.specs.Results.{and_then, unless}

pub ok_cond : {A E : Type 0} (b : Bool) (x : Result A E) (e : E) (w : A) → cond b x (Err e) ≡ Ok w → (b ≡ true) × (x ≡ Ok w)
ok_cond true x e w h = (refl, h)
ok_cond false x e w h = let z : ◌≡◌ {A = ℕ} 0 1 = cc in absurd (omega arith)

pub ok_part : {S E : Type 0} (b : Bool) (s t : S) (e : E) → ◌≡◌ {A = Result S E} (Ok s) (cond b (Ok t) (Err e)) → (b ≡ true) × (s ≡ t)
ok_part b s t e h = let p = ok_cond b (Ok t) e s (sym h) in let q = p.1 in (p.0, cc)

pub ok_then : {A B E : Type 0} (x : Result A E) (f : A → Result B E) (w : B) → and_then x f ≡ Ok w → (a : A) × (x ≡ Ok a) × (f a ≡ Ok w)
ok_then (Ok a) f w h = (a, refl, h)
ok_then (Err e) f w h = let z : ◌≡◌ {A = ℕ} 0 1 = cc in absurd (omega arith)

pub unless_err : {A : Type 0} (o : Option Said) (x : A) (e : Said) → ◌≡◌ {A = Result A Said} (Err e) (unless o x) → o ≡ Some e
unless_err None x e h = let z : ◌≡◌ {A = ℕ} 0 1 = cc in absurd (omega arith)
unless_err (Some d) x e h = cc

pub unless_ok : {A : Type 0} (o : Option Said) (x y : A) → ◌≡◌ {A = Result A Said} (Ok y) (unless o x) → (o ≡ None) × (y ≡ x)
unless_ok None x y h = (refl, cc)
unless_ok (Some d) x y h = let z : ◌≡◌ {A = ℕ} 0 1 = cc in absurd (omega arith)
