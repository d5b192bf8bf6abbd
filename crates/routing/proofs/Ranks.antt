-- A rank orders rows by their names, then by a dataflow.
use Rattle.std.proofs.Common.{◌≡◌, ℕ, ◌+◌, ◌*◌, ◌<◌, Bool, true, false, cond, ◌⊎◌, refl, inl, inr, ⊎_elim, arith}
use Rattle.std.proofs.lemmas.Bool.{cases_lt, true≢false, false≢true}
use Rattle.routing.specs.Rows.{rank_of, name_count}
use Rattle.routing.specs.Best.{Better}
use Rattle.routing.specs.declared.row.RouteRow.{RouteRow}

above : (m n : ℕ) (f g : Bool) → 2 * m + cond f 1 0 < 2 * n + cond g 1 0 → (m < n) ⊎ ((n ≡ m) × (g ≡ true) × (f ≡ false))
above m n true true h = inl (omega arith)
above m n true false h = inl (omega arith)
above m n false false h = inl (omega arith)
above m n false true h = ⊎_elim (λ l. inl l) (λ l. inr (omega arith, refl, refl)) (cases_lt m n)

below : (m n : ℕ) (f g : Bool) → (m < n) ⊎ ((n ≡ m) × (g ≡ true) × (f ≡ false)) → 2 * m + cond f 1 0 < 2 * n + cond g 1 0
below m n true true (inl l) = omega arith
below m n true false (inl l) = omega arith
below m n false false (inl l) = omega arith
below m n false true (inl l) = omega arith
below m n true g (inr e) = absurd (true≢false e.2)
below m n false false (inr e) = absurd (false≢true e.1)
below m n false true (inr e) = let x = e.0 in omega arith

pub better_above : (a b : RouteRow) → rank_of b < rank_of a → Better a b
better_above a b h = above (name_count b) (name_count a) b.has_dataflow a.has_dataflow h

pub rank_above : (a b : RouteRow) → Better a b → rank_of b < rank_of a
rank_above a b h = below (name_count b) (name_count a) b.has_dataflow a.has_dataflow h
