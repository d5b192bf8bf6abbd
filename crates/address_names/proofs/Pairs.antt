-- Names that come first, by their number and place by place.
use Rattle.std.proofs.Common.{◌≡◌, ℕ, suc, ◌+◌, eqb, Bool, true, false, ◌&&◌, List, [], ◌∷◌, length, leb, arith}
use Rattle.std.specs.List.{count_by}
use Rattle.std.proofs.lemmas.List.Splits.{length-slice_split}
use Rattle.std.proofs.lemmas.Bool.Decides.{nat_tests}
use Rattle.text.specs.Forms.{same_text}
use Rattle.text.specs.Names.{names, first_names}
use Rattle.address_names.specs.Agree.{agree}

pub count_of_colons : (bs : List ℕ) → length (names bs) ≡ count_by (λ b. eqb b 58) bs + 1
count_of_colons bs = length-slice_split (λ b. eqb b 58) bs

step : (m n : ℕ) (s a f : Bool) → f ≡ (leb m n && a) → (s && f) ≡ (leb (suc m) (suc n) && (s && a))
step m n true a f e = grind (arith, nat_tests)
step m n false a f e = grind (arith, nat_tests)

-- no more than there are in the other list, and the same at each place
pub first_by_places : (ns ts : List (List ℕ)) → first_names ns ts ≡ (leb (length ns) (length ts) && agree ns ts)
first_by_places [] ts = grind (arith, nat_tests)
first_by_places (n ∷ ns) [] = grind (arith, nat_tests)
first_by_places (n ∷ ns) (t ∷ ts) = step (length ns) (length ts) (same_text n t) (agree ns ts) (first_names ns ts) (first_by_places ns ts)
