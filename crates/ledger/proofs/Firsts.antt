-- The first place that passes, as the library finds it.
use Rattle.std.proofs.Common.{◌≡◌, ℕ, ◌+◌, Bool, cond, List, [], ◌∷◌, Some, refl, ap, ◌∙◌, add-one}
use Rattle.std.specs.List.{position, position_from}
use Rattle.std.proofs.lemmas.Iterator.Adapters.{position_from-zero}
use Rattle.ledger.specs.Searches.{first_from}

from_is : {R : Type 0} (p : R → Bool) (n : ℕ) (rows : List R) → position_from p n rows ≡ first_from n p rows
from_is p n [] = refl
from_is p n (r ∷ rs) = ap (cond (p r) (Some n)) (from_is p (n + 1) rs ∙ ap (λ k. first_from k p rs) (add-one n))

pub first_is : {R : Type 0} (p : R → Bool) (rows : List R) → position p rows ≡ first_from 0 p rows
first_is p rows = position_from-zero p rows ∙ from_is p 0 rows
