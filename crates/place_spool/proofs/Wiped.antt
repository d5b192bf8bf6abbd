-- Every place of a memory of zeros is empty.
use Rattle.std.proofs.Common.{◌≡◌, ℕ, ◌+◌, ◌-◌, ◌*◌, ◌≤◌, List, [], length, get_or, take, drop, replicate, sym, ap, ◌∙◌, arith}
use Rattle.std.proofs.lemmas.List.{ext_get_or, get_or-replicate, length-replicate, drop-replicate, take-replicate}
use Rattle.place_spool.specs.Cells.{cell_length, cell_held}
use Rattle.place_spool.specs.Memory.{places_in, cell, memory_held, wiped, memory_count}
use Rattle.place_spool.proofs.Places.{place_at, cell_within, same_places}

zero_cell : (z : ℕ) → 2 ≤ z → cell_held (replicate z 0) ≡ []
zero_cell z h =
    let a : ◌≡◌ {A = ℕ} (get_or (replicate z 0) 0 0) 0 = get_or-replicate {A = ℕ} z 0 0 0 (omega arith) in
    let b : ◌≡◌ {A = ℕ} (get_or (replicate z 0) 1 0) 0 = get_or-replicate {A = ℕ} z 1 0 0 (omega arith) in
    let s : cell_length (replicate z 0) ≡ 0 = omega arith in
    ap (λ n. take n (drop 2 (replicate z 0))) s

zeros_cell : (n p : ℕ) → 2050 * p + 2050 ≤ n → cell_held (cell p (replicate n 0)) ≡ []
unfolding cell
zeros_cell n p h =
    ap (λ t. cell_held (take 2050 t)) (drop-replicate (2050 * p) n 0)
    ∙ ap cell_held (take-replicate 2050 (n - 2050 * p) 0 (omega arith))
    ∙ zero_cell 2050 (omega arith)

zeros_held : (n : ℕ) → memory_held (replicate n 0) ≡ replicate (places_in (replicate n 0)) []
zeros_held n =
    let m = replicate n 0 in
    let cm = memory_count m in
    let ln = length-replicate {A = ℕ} n 0 in
    ext_get_or [] (memory_held m) (replicate (places_in m) [])
    (omega (arith, length-replicate {A = List ℕ} (places_in m) []))
    (λ j b. place_at m j (omega arith) ∙ zeros_cell n j (omega (arith, cell_within m j b))
    ∙ sym (get_or-replicate (places_in m) j [] [] (omega arith)))

pub wiped_held : (m n : List ℕ) → n ≡ wiped m → memory_held n ≡ replicate (places_in m) []
wiped_held m n e =
    ap memory_held e
    ∙ zeros_held (length m)
    ∙ ap (λ k. replicate k []) (same_places (replicate (length m) 0) m (length-replicate (length m) 0))
