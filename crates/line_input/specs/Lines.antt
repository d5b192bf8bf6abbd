-- What a line that was asked for holds.
use Rattle.std.specs.Prelude.{ℕ, Bool, true, false, List, [], ◌∷◌}
use Rattle.line_input.specs.Kept.{without_return, whole}
use Rattle.line_input.specs.declared.input.Got.{Got}
use Rattle.line_input.specs.declared.input.Got.TheVariants.{Line, Long, End}

-- what is left of the bytes that came in
abbrev pub settled : Got → List ℕ → List ℕ
settled Line bs = without_return bs
settled Long bs = []
settled End bs = []

abbrev pub is_none : List ℕ → Bool
is_none [] = true
is_none (b ∷ bs) = false

-- a line is whole; where there is none, or it is too long, nothing is held
abbrev pub lawful : Got → List ℕ → Bool
lawful Line bs = whole 8192 bs
lawful Long bs = is_none bs
lawful End bs = is_none bs
