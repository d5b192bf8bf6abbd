-- The memory of a place spool: one cell of 2,050 bytes after another, the cell of place 0 first, and a tail past the last.
use Rattle.std.specs.Prelude.{◌≡◌, ℕ, ◌+◌, ◌*◌, ◌/◌, ◌≤◌, min, cond, ◌&&◌, List, [], ◌++◌, map, length, take, drop, replicate}
use Rattle.std.proofs.Common.{arith}
use Rattle.std.specs.List.{range_with_len}
use Rattle.std.proofs.lemmas.List.{length-take}
use Rattle.std.proofs.lemmas.List.FromFn.{length-map-range_with_len}
use Rattle.spool.specs.Meaning.{is_place, storable}
use Rattle.spool.specs.Short.{Short, short_map}
use Rattle.place_spool.specs.Cells.{cell_length, cell_held, frame}

-- a place for each full cell, and no more than 256
abbrev pub places_in : List ℕ → ℕ
places_in m = min 256 (length m / 2050)

-- the cell of a place
unfoldable pub cell : ℕ → List ℕ → List ℕ
cell p m = take 2050 (drop (2050 * p) m)

-- what each place holds, whatever bytes stand in the memory
unfoldable pub memory_held : List ℕ → List (List ℕ)
memory_held m = map (λ p. cell_held (cell p m)) (range_with_len 0 (places_in m))

-- what lies past the last place
unfoldable pub tail : List ℕ → List ℕ
tail m = drop (2050 * places_in m) m

-- every byte zero
abbrev pub wiped : List ℕ → List ℕ
wiped m = replicate (length m) 0

-- bytes written over those from a position on
abbrev pub over_at : ℕ → List ℕ → List ℕ → List ℕ
over_at i bs m = take i m ++ (bs ++ drop (i + length bs) m)

-- the length and the bytes written to the cell of a place: every byte past them is kept
unfoldable pub framed : ℕ → List ℕ → List ℕ → List ℕ
framed p bs m = over_at (2050 * p) (frame bs) m

abbrev pub memory_stored : ℕ → List ℕ → List ℕ → List ℕ
memory_stored p bs m = cond (is_place p (memory_held m) && storable (length bs)) (framed p bs m) m

-- no bytes, and so their number alone is written
abbrev pub memory_cleared : ℕ → List ℕ → List ℕ
memory_cleared p m = cond (is_place p (memory_held m)) (framed p [] m) m

pub memory_count : (m : List ℕ) → length (memory_held m) ≡ places_in m
unfolding memory_held
memory_count m = length-map-range_with_len (λ p. cell_held (cell p m)) 0 (places_in m)

pub memory_few : (m : List ℕ) → length (memory_held m) ≤ 256
memory_few m = omega (arith, memory_count m)

pub memory_short : (m : List ℕ) → Short (memory_held m)
unfolding memory_held
memory_short m =
    short_map (λ p. cell_held (cell p m))
    (λ p. omega (arith, length-take (cell_length (cell p m)) (drop 2 (cell p m))))
    (range_with_len 0 (places_in m))
