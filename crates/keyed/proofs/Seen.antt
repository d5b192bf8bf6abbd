-- A chain over words, said of their bytes.
use Rattle.std.proofs.Common.{◌≡◌, ℕ, List, [], ◌∷◌, map, Option, ap, Bor}
use Rattle.std.specs.Iterator.{AlwaysYields}
use Rattle.std.specs.Slice.Iter.{iter_rest}
use Rattle.std.specs.declared.slice.Iter.{Iter}
use Rattle.std.proofs.lemmas.Fn.{fronts}
use Rattle.std.proofs.lemmas.Iterator.{YieldsList, YieldsList-from_slice}
use Rattle.words.specs.Cuts.{seen}

module _ {S A B C : Type 0} (steps : S → Option A → S → Type 0) (v : A → B) (w : B → C) where
  read_by : (ys : List B) (s : S) → AlwaysYields steps v s ys → AlwaysYields steps (λ x. w (v x)) s (map w ys)
  read_by [] s a = a
  read_by (y ∷ ys) s a = (a.0, λ x j p. (ap w (a.1 x j p).0, read_by ys j (a.1 x j p).1))

pub seen_from_slice : {s : Iter (Bor (List ℕ))} (ws : List (Bor (List ℕ))) → iter_rest s ≡ ws → YieldsList fronts (λ y. y.now.now) s (seen ws)
seen_from_slice {s} ws e = record { runs = read_by fronts (λ y. y.now) (λ w. w.now) ws s (YieldsList-from_slice ws e).runs }
