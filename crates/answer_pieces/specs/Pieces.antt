-- Text put together of pieces, one after the other.
use Rattle.std.specs.Prelude.{ℕ, List, [], ◌∷◌, ◌++◌}

-- out with each piece after it
abbrev pub appended : List ℕ → List (List ℕ) → List ℕ
appended out [] = out
appended out (p ∷ ps) = appended (out ++ p) ps

-- out with each group of pieces after it
abbrev pub grouped : List ℕ → List (List (List ℕ)) → List ℕ
grouped out [] = out
grouped out (g ∷ gs) = grouped (appended out g) gs

-- the pieces as one text, and the groups
abbrev pub joined : List (List ℕ) → List ℕ
joined [] = []
joined (p ∷ ps) = p ++ joined ps

abbrev pub joined_groups : List (List (List ℕ)) → List ℕ
joined_groups [] = []
joined_groups (g ∷ gs) = joined g ++ joined_groups gs
