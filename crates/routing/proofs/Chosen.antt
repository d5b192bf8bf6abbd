-- What is true of the way that is chosen.
use Rattle.std.proofs.Common.{◌≡◌, ℕ, Bool, true, false, cond, ◌&&◌, List, Some, None, Ok, Err, Option, Result, refl}
use Rattle.text.specs.Forms.{is_address, is_dataflow}
use Rattle.text.specs.Faults.{checked_address, checked_dataflow}
use Rattle.text.specs.declared.fault.TextFault.{TextFault}
use Rattle.text.specs.declared.fault.TextFault.TheVariants.{NoAddress, NoDataflow}
use Rattle.routing.specs.declared.row.Way.{Way}
use Rattle.routing.specs.declared.row.RouteRow.{RouteRow}
use Rattle.routing.specs.Choice.{way_at, best_row, and_then, chosen_way}
use Rattle.routing.specs.Best.{WhereChosen, WhereNone, WhereRefused, OfFitting, OfBest, NoneFits, IsRefused}
use Rattle.routing.proofs.Found.{BestAt, best_is}

module _ (rows : List RouteRow) (t d : List ℕ) where
  -- what holds of every refusal and of what the best row gives holds of the choice
  by_best : (P : Result (Option Way) TextFault → Type 0) → ((f : TextFault) → P (Err f)) → P (Ok (way_at rows (best_row t d rows))) → P (chosen_way rows t d)
  by_best P e h = both (checked_address t) (checked_dataflow d)
    where
      both : (x y : Result (Unit {0}) TextFault) → P (and_then x (and_then y (Ok (way_at rows (best_row t d rows)))))
      both (Ok u) (Ok v) = h
      both (Ok u) (Err f) = e f
      both (Err f) y = e f

  of_best : (o : Option ℕ) → BestAt t d rows o → WhereChosen (Ok (way_at rows o)) (OfBest rows t d)
  of_best None h = tt
  of_best (Some k) h = (k, h, refl)

  of_none : (o : Option ℕ) → BestAt t d rows o → WhereNone (Ok (way_at rows o)) (NoneFits rows t d)
  of_none None h = h
  of_none (Some k) h = tt

  fitting : (r : Result (Option Way) TextFault) → WhereChosen r (OfBest rows t d) → WhereChosen r (OfFitting rows t d)
  fitting (Ok None) h = tt
  fitting (Ok (Some w)) h = (h.0, h.1.fitting, h.2)
  fitting (Err f) h = tt

  refused : (a b : Bool) (o : Option Way) → (P : TextFault → Type 0)
      → ((a && b) ≡ false → P NoAddress) → ((a && b) ≡ false → P NoDataflow)
      → WhereRefused (and_then (cond a (Ok tt) (Err NoAddress)) (and_then (cond b (Ok tt) (Err NoDataflow)) (Ok o))) P
  refused true true o P x y = tt
  refused true false o P x y = y refl
  refused false b o P x y = x refl

  pub chosen_best : WhereChosen (chosen_way rows t d) (OfBest rows t d)
  chosen_best = by_best (λ r. WhereChosen r (OfBest rows t d)) (λ f. tt) (of_best (best_row t d rows) (best_is t d rows))

  pub chosen_fits : WhereChosen (chosen_way rows t d) (OfFitting rows t d)
  chosen_fits = fitting (chosen_way rows t d) chosen_best

  pub chosen_none : WhereNone (chosen_way rows t d) (NoneFits rows t d)
  chosen_none = by_best (λ r. WhereNone r (NoneFits rows t d)) (λ f. tt) (of_none (best_row t d rows) (best_is t d rows))

  pub chosen_refused : WhereRefused (chosen_way rows t d) (IsRefused t d)
  chosen_refused = refused (is_address t) (is_dataflow d) (way_at rows (best_row t d rows)) (IsRefused t d) (λ e. (e, refl)) (λ e. (e, refl))
