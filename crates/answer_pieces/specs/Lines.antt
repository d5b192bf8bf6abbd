-- A line put together of groups of pieces.
use Rattle.std.specs.Prelude.{ℕ, List, [], ◌∷◌, ◌++◌, codes, decimal}
use Rattle.answer_pieces.specs.Pieces.{grouped}

-- out with the line N PIECES and its line feed after it
abbrev pub line_onto : List ℕ → ℕ → List (List (List ℕ)) → List ℕ
line_onto out n gs = grouped ((out ++ decimal n) ++ codes " ") gs ++ (10 ∷ [])
