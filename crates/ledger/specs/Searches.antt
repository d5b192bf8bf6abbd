-- Which row each operation picks: the first of a sort.
use Rattle.std.specs.Prelude.{ℕ, suc, Bool, cond, not, ◌&&◌, List, [], ◌∷◌, Some, None, Option}
use Rattle.std.specs.List.{slice_get}
use Rattle.ledger.specs.Kinds.{Kind, live, has_key}

-- live at t with that key
abbrev pub live_with : {R K : Type 0} → Kind R K → ℕ → K → R → Bool
live_with m t k r = live m t r && has_key m k r

-- filled with that key
abbrev pub filled_with : {R K : Type 0} → Kind R K → K → R → Bool
filled_with m k r = m.filled r && has_key m k r

-- not live at t
abbrev pub spare : {R K : Type 0} → Kind R K → ℕ → R → Bool
spare m t r = not (live m t r)

-- the first place that passes, where the list starts at place n
abbrev pub first_from : {R : Type 0} → ℕ → (R → Bool) → List R → Option ℕ
first_from n p [] = None
first_from n p (r ∷ rs) = cond (p r) (Some n) (first_from (suc n) p rs)

abbrev pub or_else : Option ℕ → Option ℕ → Option ℕ
or_else (Some i) o = Some i
or_else None o = o

-- the first live row with that key
abbrev pub found : {R K : Type 0} → Kind R K → ℕ → K → List R → Option ℕ
found m t k rows = first_from 0 (live_with m t k) rows

-- the first filled row with that key
abbrev pub entered : {R K : Type 0} → Kind R K → K → List R → Option ℕ
entered m k rows = first_from 0 (filled_with m k) rows

-- where a row with that key goes: the first filled row with it, else the first row not live
abbrev pub place_for : {R K : Type 0} → Kind R K → ℕ → K → List R → Option ℕ
place_for m t k rows = or_else (entered m k rows) (first_from 0 (spare m t) rows)

-- the row at a place, if there is one
abbrev pub row_at : {R : Type 0} → Option ℕ → List R → Option R
row_at (Some i) rows = slice_get rows i
row_at None rows = None
