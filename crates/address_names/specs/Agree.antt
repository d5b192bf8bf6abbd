-- Names side by side.
use Rattle.std.specs.Prelude.{ℕ, Bool, true, List, Some, None, Option, ◌==◌}
use Rattle.std.specs.List.{list_all, zip}
use Rattle.text.specs.Forms.{same_text}

-- the names at the same place are the same, as far as both lists go
abbrev pub agree : List (List ℕ) → List (List ℕ) → Bool
agree ns ts = list_all (λ p. same_text p.0 p.1) (zip ns ts)

-- what stands behind a name that ends: nothing, or a colon
abbrev pub is_end : Option ℕ → Bool
is_end None = true
is_end (Some b) = b == 58
