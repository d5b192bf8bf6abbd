-- The earliest place, as it is picked from those that have a time.
use Rattle.std.proofs.Common.{◌≡◌, ℕ, ◌+◌, Bool, true, false, cond, leb, List, [], ◌∷◌, Some, None, Option, refl, ap, ◌∙◌}
use Rattle.std.specs.List.{fold, reduce, filter_map, cons_option, enumerate_from}
use Rattle.std.specs.Option.{option_map}
use Rattle.text.proofs.Chains.{onto_first, fold_onto_first, pick_assoc, chain_le, chain_gt}
use Rattle.standing.specs.declared.standing.Standing.{Standing}
use Rattle.searches.specs.declared.search.Found.{Found}
use Rattle.searches.specs.Earliest.{earlier, earliest_by, sooner}

abbrev pub found_at : ℕ → Option ℕ → Option Found
found_at i time = option_map (λ t. record { place = i; time = t }) time

-- the first of two stays where the second has no earlier time
abbrev stays : Found → Found → Bool
stays a b = leb a.time b.time

from_the_first : (a : Found) (rest : List Found) → fold sooner a rest ≡ onto_first sooner a (reduce sooner rest)
from_the_first = fold_onto_first sooner (pick_assoc stays (λ a b c. chain_le a.time b.time c.time) (λ a b c. chain_gt a.time b.time c.time))

some_cond : (b : Bool) (x y : Found) → Some (cond b x y) ≡ cond b (Some x) (Some y)
some_cond true x y = refl
some_cond false x y = refl

in_front : (i time : ℕ) (rest : Option Found) → Some (onto_first sooner (record { place = i; time = time }) rest) ≡ earlier i (Some time) rest
in_front i time None = refl
in_front i time (Some found) = some_cond (leb time found.time) (record { place = i; time = time }) found

module _ (h : Standing → Option ℕ) where
  abbrev pub candidate : ℕ × Standing → Option Found
  candidate p = found_at p.0 (h p.1)

  step : (i : ℕ) (o : Option ℕ) (fs : List Found) (rest : Option Found) → reduce sooner fs ≡ rest → reduce sooner (cons_option (found_at i o) fs) ≡ earlier i o rest
  step i None fs rest e = e
  step i (Some time) fs rest e =
      let a : Found = record { place = i; time = time } in
      ap Some (from_the_first a fs) ∙ ap (λ r. Some (onto_first sooner a r)) e ∙ in_front i time rest

  from : (i : ℕ) (ss : List Standing) → reduce sooner (filter_map candidate (enumerate_from i ss)) ≡ earliest_by h i ss
  from i [] = refl
  from i (s ∷ ss) = step i (h s) (filter_map candidate (enumerate_from (i + 1) ss)) (earliest_by h (i + 1) ss) (from (i + 1) ss)

  pub picked : (ss : List Standing) (r : Option Found) → option_map (λ x. x) r ≡ reduce sooner (filter_map candidate (enumerate_from 0 ss)) → r ≡ earliest_by h 0 ss
  picked ss None e = e ∙ from 0 ss
  picked ss (Some found) e = e ∙ from 0 ss
