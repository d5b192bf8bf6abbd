-- What the search through a table finds.
use Rattle.std.proofs.Common.{◌≡◌, ℕ, zero, suc, ◌+◌, ◌<◌, ◌≤◌, Bool, true, false, cond, List, [], ◌∷◌, length, Some, None, Option, sym, refl, ◌∙◌, subst, ⊎_elim, arith}
use Rattle.std.proofs.lemmas.Bool.Decides.{leb_tells}
use Rattle.std.proofs.lemmas.Bool.{true≢false, cases_lt}
use Rattle.routing.specs.declared.row.RouteRow.{RouteRow}
use Rattle.routing.specs.Rows.{fits, rank_of}
use Rattle.routing.specs.Choice.{Candidate, preferred, best_from, place_of, best_row}
use Rattle.routing.specs.Best.{row_at, FitsAt, Best, NoneFits}
use Rattle.routing.proofs.Ranks.{better_above, rank_above}

module _ (t d : List ℕ) where
  -- row p of the rows, numbered from i, is the one that was found
  abbrev At : ℕ → List RouteRow → Candidate → ℕ → Type 0
  At i rows c p = (c.place ≡ i + p) × FitsAt t d rows p × (rank_of (row_at rows p) ≡ c.rank)

  abbrev Highest : ℕ → List RouteRow → Candidate → Type 0
  Highest i rows c = (k : ℕ) → FitsAt t d rows k → (rank_of (row_at rows k) ≤ c.rank) × (rank_of (row_at rows k) ≡ c.rank → c.place ≤ i + k)

  abbrev FoundFrom : ℕ → List RouteRow → Option Candidate → Type 0
  FoundFrom i rows None = NoneFits rows t d
  FoundFrom i rows (Some c) = ((p : ℕ) × At i rows c p) × Highest i rows c

  -- a fitting row of row ∷ rows is the first or one of rows
  split : (row : RouteRow) (rows : List RouteRow) (P : ℕ → RouteRow → Type 0) → (fits t d row ≡ true → P 0 row)
      → ((k : ℕ) → FitsAt t d rows k → P (suc k) (row_at rows k)) → (k : ℕ) → FitsAt t d (row ∷ rows) k → P k (row_at (row ∷ rows) k)
  split row rows P z f zero h = z h.1
  split row rows P z f (suc k) h = let l : k < length rows = omega arith in f k (l, h.1)

  module _ (i : ℕ) (row : RouteRow) (rows : List RouteRow) where
    -- the first row does not fit, or ranks below what the rest has
    keeps : (c : Candidate) → (fits t d row ≡ true → rank_of row < c.rank) → FoundFrom (i + 1) rows (Some c) → FoundFrom i (row ∷ rows) (Some c)
    keeps c q h =
        let p = h.0.0 in
        let e = h.0.1.0 in
        let l = h.0.1.1.0 in (
          (suc p, (omega arith, (omega arith, h.0.1.1.1), h.0.1.2)),
          split row rows (λ k r. (rank_of r ≤ c.rank) × (rank_of r ≡ c.rank → c.place ≤ i + k))
              (λ f. let z = q f in (omega arith, λ y. omega arith))
              (λ k f. let z = h.1 k f in (z.0, λ y. let x = z.1 y in omega arith)),
        )

    takes : fits t d row ≡ true → ((k : ℕ) → FitsAt t d rows k → rank_of (row_at rows k) ≤ rank_of row) → FoundFrom i (row ∷ rows) (Some (record { place = i; rank = rank_of row }))
    takes e h = (
      (0, (omega arith, (omega arith, e), refl)),
      split row rows (λ k r. (rank_of r ≤ rank_of row) × (rank_of r ≡ rank_of row → i ≤ i + k))
          (λ f. (omega arith, λ y. omega arith))
          (λ k f. (h k f, λ y. omega arith)),
    )

    step : (b : Bool) (o : Option Candidate) → fits t d row ≡ b → FoundFrom (i + 1) rows o → FoundFrom i (row ∷ rows) (preferred i (cond b (Some (rank_of row)) None) o)
    step false None e h = split row rows (λ k r. ⊥) (λ f. true≢false (sym f ∙ e)) h
    step false (Some c) e h = keeps c (λ f. absurd (true≢false (sym f ∙ e))) h
    step true None e h = takes e (λ k f. absurd (h k f))
    step true (Some c) e h =
        ⊎_elim
        (λ w. rw w.0 (takes e (λ k f. let z = (h.1 k f).0 in let y = w.1 in omega arith)))
        (λ w. rw w.0 (keeps c (λ f. w.1) h))
        (leb_tells c.rank (rank_of row))

  found_from : (i : ℕ) (rows : List RouteRow) → FoundFrom i rows (best_from t d i rows)
  found_from i [] = λ k h. omega arith
  found_from i (row ∷ rows) = step i row rows (fits t d row) (best_from t d (i + 1) rows) refl (found_from (i + 1) rows)

  abbrev pub BestAt : List RouteRow → Option ℕ → Type 0
  BestAt rows None = NoneFits rows t d
  BestAt rows (Some k) = Best t d rows k

  -- by names and dataflow, and with the places counted from 0
  best_at : (rows : List RouteRow) (o : Option Candidate) → FoundFrom 0 rows o → BestAt rows (place_of o)
  best_at rows None h = h
  best_at rows (Some c) h =
      let p = h.0.0 in
      let y = h.0.1.2 in
      let e : p ≡ c.place = let x = h.0.1.0 in omega arith in
      subst (Best t d rows) e (record {
        fitting = h.0.1.1;
        unbeaten = λ j f b. let x = rank_above (row_at rows j) (row_at rows p) b in let z = (h.1 j f).0 in omega arith;
        uppermost = λ j f l. better_above (row_at rows p) (row_at rows j)
            (⊎_elim (λ m. omega arith) (λ m. let z = (h.1 j f).0 in let x = (h.1 j f).1 (omega arith) in absurd (omega arith)) (cases_lt (rank_of (row_at rows j)) c.rank));
      })

  pub best_is : (rows : List RouteRow) → BestAt rows (best_row t d rows)
  best_is rows = best_at rows (best_from t d 0 rows) (found_from 0 rows)
