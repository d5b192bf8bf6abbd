-- The lowest free place is the first position of one.
use Rattle.std.proofs.Common.{◌≡◌, ℕ, ◌+◌, cond, List, [], ◌∷◌, Some, Option, sym, refl, ap, ◌∙◌}
use Rattle.std.specs.List.{position, position_from}
use Rattle.std.proofs.lemmas.Iterator.Adapters.{position_from-zero}
use Rattle.standing.specs.Frees.{free_or, first_free}
use Rattle.standing.specs.Standings.{is_free}
use Rattle.standing.specs.declared.standing.Standing.{Standing}
use Rattle.standing.specs.declared.standing.Standing.TheVariants.{Free, Waiting, Out, Inbox, Notice}

one : (i : ℕ) (s : Standing) (rest : Option ℕ) → free_or i s rest ≡ cond (is_free s) (Some i) rest
one i Free rest = refl
one i (Waiting hop due failed about) rest = refl
one i (Out hop n s failed about) rest = refl
one i (Inbox entered about) rest = refl
one i (Notice entered about) rest = refl

from : (i : ℕ) (ss : List Standing) → first_free i ss ≡ position_from is_free i ss
from i [] = refl
from i (s ∷ ss) = one i s (first_free (i + 1) ss) ∙ ap (cond (is_free s) (Some i)) (from (i + 1) ss)

pub first_free_place : (ss : List Standing) → first_free 0 ss ≡ position is_free ss
first_free_place ss = from 0 ss ∙ sym (position_from-zero is_free ss)
