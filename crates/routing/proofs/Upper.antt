-- The best row, as it is picked from those that fit.
use Rattle.std.proofs.Common.{◌≡◌, ℕ, suc, ◌+◌, Bool, true, false, cond, leb, List, [], ◌∷◌, Some, None, Option, sym, refl, ap, ◌∙◌, ⊎_elim, arith}
use Rattle.std.specs.List.{fold, reduce, filter}
use Rattle.std.specs.Option.{option_map}
use Rattle.std.proofs.lemmas.Bool.Decides.{leb_tells}
use Rattle.text.proofs.Chains.{onto_first, fold_onto_first, kept, taken, pick_assoc, chain_le, chain_gt}
use Rattle.routing.specs.declared.row.RouteRow.{RouteRow}
use Rattle.routing.specs.declared.choice.Ranked.{Ranked}
use Rattle.routing.specs.Rows.{fits, rank_of}
use Rattle.routing.specs.Choice.{Candidate, preferred, best_from, place_of, best_row, better_of, way_at}
use Rattle.routing.specs.Best.{row_at}
use Rattle.routing.specs.Ranked.{seen, with_rank, better_ranked, better_after}

-- the upper of two rows stays where the lower ranks no higher
abbrev stays : RouteRow → RouteRow → Bool
stays upper lower = leb (rank_of lower) (rank_of upper)

from_the_first : (row : RouteRow) (rows : List RouteRow) → fold better_of row rows ≡ onto_first better_of row (reduce better_of rows)
from_the_first = fold_onto_first better_of
    (pick_assoc stays (λ a b c x y. chain_le (rank_of c) (rank_of b) (rank_of a) y x) (λ a b c x y. chain_gt (rank_of c) (rank_of b) (rank_of a) y x))

-- of the rows that fit, the uppermost of those that rank highest
abbrev pub row_of_best : List ℕ → List ℕ → List RouteRow → Option RouteRow
row_of_best t d rows = reduce better_of (filter (fits t d) rows)

module _ (t d : List ℕ) where
  -- row p of the rows, numbered from i, is the one that was found and the one that was picked
  abbrev SameRow : ℕ → List RouteRow → Option Candidate → Option RouteRow → Type 0
  SameRow i rows None None = Unit {0}
  SameRow i rows None (Some r) = ⊥
  SameRow i rows (Some c) None = ⊥
  SameRow i rows (Some c) (Some r) = (p : ℕ) × (c.place ≡ i + p) × (row_at rows p ≡ r) × (c.rank ≡ rank_of r)

  module _ (i : ℕ) (row : RouteRow) (rows : List RouteRow) where
    further : (o : Option Candidate) (r : Option RouteRow) → SameRow (i + 1) rows o r → SameRow i (row ∷ rows) o r
    further None None h = tt
    further None (Some r) h = h
    further (Some c) None h = h
    further (Some c) (Some r) h = let e = h.1 in (suc h.0, omega arith, h.2, h.3)

    here : (o : Option Candidate) (r : Option RouteRow) → SameRow (i + 1) rows o r → SameRow i (row ∷ rows) (preferred i (Some (rank_of row)) o) (Some (onto_first better_of row r))
    here None None h = (0, omega arith, refl, refl)
    here None (Some r) h = absurd h
    here (Some c) None h = absurd h
    here (Some c) (Some r) h =
        ⊎_elim
        (λ w. rw w.0 (let e = sym (kept stays row r (sym (ap (λ k. leb k (rank_of row)) h.3) ∙ w.0)) in (0, omega arith, e, ap rank_of e)))
        (λ w. rw w.0 (let e = sym (taken stays row r (sym (ap (λ k. leb k (rank_of row)) h.3) ∙ w.0)) in
        let m = h.1 in (suc h.0, omega arith, h.2 ∙ e, h.3 ∙ ap rank_of e)))
        (leb_tells c.rank (rank_of row))

    step : (b : Bool) (o : Option Candidate) → SameRow (i + 1) rows o (row_of_best t d rows)
        → SameRow i (row ∷ rows) (preferred i (cond b (Some (rank_of row)) None) o) (reduce better_of (cond b (row ∷ filter (fits t d) rows) (filter (fits t d) rows)))
    step false o h = further o (row_of_best t d rows) h
    step true o h = rw (from_the_first row (filter (fits t d) rows)) (here o (row_of_best t d rows) h)

  same_row : (i : ℕ) (rows : List RouteRow) → SameRow i rows (best_from t d i rows) (row_of_best t d rows)
  same_row i [] = tt
  same_row i (row ∷ rows) = step i row rows (fits t d row) (best_from t d (i + 1) rows) (same_row (i + 1) rows)

  way_of_same : (rows : List RouteRow) (o : Option Candidate) (r : Option RouteRow) → SameRow 0 rows o r → option_map (λ x. x.way) r ≡ way_at rows (place_of o)
  way_of_same rows None None h = refl
  way_of_same rows None (Some r) h = absurd h
  way_of_same rows (Some c) None h = absurd h
  way_of_same rows (Some c) (Some r) h = let e : c.place ≡ h.0 = omega (arith, h.1) in ap Some (ap (λ x. x.way) (sym h.2) ∙ ap (λ k. (row_at rows k).way) (sym e))

  -- the way of the row that is picked is that of the best row by its place
  pub picked_way : (rows : List RouteRow) → option_map (λ x. x.way) (row_of_best t d rows) ≡ way_at rows (best_row t d rows)
  picked_way rows = way_of_same rows (best_from t d 0 rows) (row_of_best t d rows) (same_row 0 rows)

-- picking rows by the ranks that go with them is picking them by their ranks
better_with_rank : (a b : RouteRow) → better_ranked (with_rank a) (with_rank b) ≡ with_rank (better_of a b)
better_with_rank a b = at (leb (rank_of b) (rank_of a))
  where
    at : (q : Bool) → cond q (with_rank a) (with_rank b) ≡ with_rank (cond q a b)
    at true = refl
    at false = refl

module _ (t d : List ℕ) where
  ranked_on : (b : Bool) (a row : RouteRow) (rows : List RouteRow)
      → ((c : RouteRow) → fold (better_after t d) (Some (with_rank c)) rows ≡ Some (with_rank (fold better_of c (filter (fits t d) rows))))
      → fold (better_after t d) (cond b (Some (better_ranked (with_rank a) (with_rank row))) (Some (with_rank a))) rows
      ≡ Some (with_rank (fold better_of a (cond b (row ∷ filter (fits t d) rows) (filter (fits t d) rows))))
  ranked_on true a row rows h = ap (λ p. fold (better_after t d) (Some p) rows) (better_with_rank a row) ∙ h (better_of a row)
  ranked_on false a row rows h = h a

  ranked_from : (rows : List RouteRow) (a : RouteRow) → fold (better_after t d) (Some (with_rank a)) rows ≡ Some (with_rank (fold better_of a (filter (fits t d) rows)))
  ranked_from [] a = refl
  ranked_from (row ∷ rows) a = ranked_on (fits t d row) a row rows (ranked_from rows)

  ranked_at : (b : Bool) (row : RouteRow) (rows : List RouteRow) → fold (better_after t d) None rows ≡ option_map with_rank (row_of_best t d rows)
      → fold (better_after t d) (cond b (Some (with_rank row)) None) rows
      ≡ option_map with_rank (reduce better_of (cond b (row ∷ filter (fits t d) rows) (filter (fits t d) rows)))
  ranked_at true row rows h = ranked_from rows row
  ranked_at false row rows h = h

  -- going down the rows with their ranks finds the row that is picked from those that fit
  pub found_with_rank : (rows : List RouteRow) → fold (better_after t d) None rows ≡ option_map with_rank (row_of_best t d rows)
  found_with_rank [] = refl
  found_with_rank (row ∷ rows) = ranked_at (fits t d row) row rows (found_with_rank rows)

pub way_of_seen : (o : Option Ranked) → option_map (λ x. x.row.now.way) o ≡ option_map (λ p. p.1.way) (option_map seen o)
way_of_seen None = refl
way_of_seen (Some x) = refl

pub way_of_ranked : (o : Option RouteRow) → option_map (λ p. p.1.way) (option_map with_rank o) ≡ option_map (λ x. x.way) o
way_of_ranked None = refl
way_of_ranked (Some x) = refl
