-- Rows that are all the freed row: how they come to be so, and that nothing is found in them.
use Rattle.std.proofs.Common.{◌≡◌, ℕ, zero, suc, Bool, false, List, [], ◌∷◌, length, replicate, None, refl, ap, ◌∙◌, arith}
use Rattle.std.specs.List.{FoldsTo}
use Rattle.ledger.specs.Kinds.{Kind}
use Rattle.ledger.specs.Searches.{first_from, live_with}
use Rattle.ledger.specs.Promises.{NothingFound}

-- what n calls made that each give v
pub all_same : {F X : Type 0} (took : F → X → F → Type 0) (v : X) (f : F) (xs : List X) (last : F) (n : ℕ) → FoldsTo took f xs last
    → length xs ≡ n → ((f : F) (x : X) (g : F) → took f x g → x ≡ v) → xs ≡ replicate n v
all_same took v f [] last zero r e h = refl
all_same took v f [] last (suc n) r e h = absurd (omega arith)
all_same took v f (x ∷ xs) last zero r e h = absurd (omega arith)
all_same took v f (x ∷ xs) last (suc n) r e h =
    ap (λ y. y ∷ xs) (h f x r.0 r.1) ∙ ap (λ l. v ∷ l) (all_same took v r.0 xs last n r.2 (omega arith) h)

none_from : {R : Type 0} (n k : ℕ) (p : R → Bool) (v : R) → p v ≡ false → first_from n p (replicate k v) ≡ None
none_from n zero p v e = refl
none_from n (suc k) p v e = rw e (none_from (suc n) k p v e)

pub nothing_found : {R K : Type 0} (m : Kind R K) (n : ℕ) (rows : List R) → m.filled m.freed ≡ false → rows ≡ replicate n m.freed → NothingFound m rows
nothing_found m n rows f e t k = ap (first_from 0 (live_with m t k)) e ∙ none_from 0 n (live_with m t k) m.freed (grind arith)
