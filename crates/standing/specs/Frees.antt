-- The lowest free place.
use Rattle.std.specs.Prelude.{ℕ, ◌+◌, List, [], ◌∷◌, Some, None, Option}
use Rattle.standing.specs.declared.standing.Standing.{Standing}
use Rattle.standing.specs.declared.standing.Standing.TheVariants.{Free, Waiting, Out, Inbox, Notice}

abbrev pub free_or : ℕ → Standing → Option ℕ → Option ℕ
free_or i Free rest = Some i
free_or i (Waiting hop due failed about) rest = rest
free_or i (Out hop n s failed about) rest = rest
free_or i (Inbox entered about) rest = rest
free_or i (Notice entered about) rest = rest

-- the lowest free place, numbered from i
abbrev pub first_free : ℕ → List Standing → Option ℕ
first_free i [] = None
first_free i (s ∷ ss) = free_or i s (first_free (i + 1) ss)
