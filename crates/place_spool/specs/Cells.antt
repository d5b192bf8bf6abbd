-- A cell of memory: a length in two bytes, the lower one first, and then room for 2,048 bytes.
use Rattle.std.specs.Prelude.{ℕ, ◌+◌, ◌*◌, ◌/◌, ◌%◌, min, List, [], ◌∷◌, ◌++◌, length, take, drop, slice_index}

-- what the two bytes say, held to the room that there is
abbrev pub cell_length : List ℕ → ℕ
cell_length c = min 2048 (slice_index c 0 + 256 * slice_index c 1)

abbrev pub cell_held : List ℕ → List ℕ
cell_held c = take (cell_length c) (drop 2 c)

abbrev pub length_bytes : ℕ → List ℕ
length_bytes n = n % 256 ∷ n / 256 ∷ []

-- what is written to a cell that is to hold these bytes
abbrev pub frame : List ℕ → List ℕ
frame bs = length_bytes (length bs) ++ bs
