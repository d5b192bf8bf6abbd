-- What the places of a memory hold, before and after a cell is written over.
use Rattle.std.proofs.Common.{◌≡◌, ℕ, zero, suc, ◌+◌, ◌*◌, ◌/◌, ◌<◌, ◌≤◌, min, List, [], map, length, get_or, take, drop, set, refl, sym, ap, ◌∙◌, inl, inr, arith}
use Rattle.std.specs.Simd.{first_chunks}
use borrow.Rule.Slice.PartMut.{put_mid}
use Rattle.std.proofs.lemmas.List.{ext_get_or, length-set, get_or-set_same, get_or-set_other, get_or-map, get_or-take, length-map, length-take, drop-drop, length-take-le, length-drop, length-append}
use Rattle.std.proofs.lemmas.Bool.{cases_order, cases_eq}
use Rattle.std.proofs.lemmas.List.FromFn.{get_or-map-range_with_len}
use Rattle.std.proofs.lemmas.Slice.{drop-put_mid}
use Rattle.spool.specs.Meaning.{at, over_front}
use Rattle.place_spool.specs.Cells.{cell_held, frame}
use Rattle.place_spool.specs.Memory.{places_in, cell, memory_held, tail, framed, memory_count}
use Rattle.place_spool.proofs.Celled.{frame_held}
use Rattle.place_spool.proofs.Stretches.{stretch_same, stretch_below, stretch_above, length_put, front_in_whole}

pub place_at : (m : List ℕ) (p : ℕ) → p < places_in m → at p (memory_held m) ≡ cell_held (cell p m)
unfolding memory_held
place_at m p h = get_or-map-range_with_len (λ p. cell_held (cell p m)) 0 (places_in m) p p [] h (omega arith)

-- the cell of a place lies within the memory
pub cell_within : (m : List ℕ) (p : ℕ) → p < length (memory_held m) → 2050 * p + 2050 ≤ length m
cell_within m p h = omega (arith, memory_count m)

chunk_count : (k : ℕ) (m : List ℕ) → length (first_chunks 2050 k m) ≡ k
chunk_count zero m = refl
chunk_count (suc k) m = ap suc (chunk_count k (drop 2050 m))

chunk_at : (k p : ℕ) (m : List ℕ) → p < k → get_or (first_chunks 2050 k m) p [] ≡ cell p m
unfolding cell
chunk_at zero p m h = absurd (omega arith)
chunk_at (suc k) zero m h = refl
chunk_at (suc k) (suc p) m h =
    chunk_at k p (drop 2050 m) (omega arith)
    ∙ ap (take 2050) (drop-drop (2050 * p) 2050 m ∙ ap (λ n. drop n m) (omega arith))

-- the chunks of a memory, as many as it has places, are the cells of its places
pub cells_count : (m : List ℕ) (full : List (List ℕ)) (n : ℕ) → full ≡ first_chunks 2050 (length m / 2050) m → n ≡ places_in m
    → length (take n full) ≡ length (memory_held m)
cells_count m full n f e =
    omega (arith, length-take n full, ap length f, chunk_count (length m / 2050) m, memory_count m)

pub cells_held : (m : List ℕ) (full : List (List ℕ)) (n : ℕ) → full ≡ first_chunks 2050 (length m / 2050) m → n ≡ places_in m
    → map cell_held (take n full) ≡ memory_held m
cells_held m full n f e =
    let cm = memory_count m in
    let cn = cells_count m full n f e in
    ext_get_or [] (map cell_held (take n full)) (memory_held m) (omega (arith, length-map (take n full) cell_held))
    (λ j b. get_or-map cell_held (take n full) j [] [] (omega (arith, length-map (take n full) cell_held))
    ∙ ap cell_held (get_or-take n full j [] (omega (arith, length-map (take n full) cell_held)) ∙ ap (λ t. get_or t j []) f
    ∙ chunk_at (length m / 2050) j m (omega (arith, length-map (take n full) cell_held)))
    ∙ sym (place_at m j (omega (arith, length-map (take n full) cell_held))))

cell_same : (m c : List ℕ) (p : ℕ) → 2050 * p + 2050 ≤ length m → length c ≡ 2050
    → cell p (put_mid (2050 * p) 2050 m c) ≡ c
unfolding cell
cell_same m c p h l = stretch_same (2050 * p) 2050 2050 m c (omega arith) h l

cell_other : (m c : List ℕ) (p j : ℕ) → 2050 * p + 2050 ≤ length m → length c ≡ 2050 → (j ≡ p → ⊥)
    → cell j (put_mid (2050 * p) 2050 m c) ≡ cell j m
unfolding cell
cell_other m c p j h l ne =
    elim (cases_order j p) [
      | inl q ↦ absurd (ne q)
      | inr r ↦ elim r [
        | inl b ↦ stretch_below (2050 * p) 2050 2050 (2050 * j) m c (omega arith) (omega arith)
        | inr a ↦ stretch_above (2050 * p) 2050 2050 (2050 * j) m c (omega arith) (omega arith) (omega arith)
      ]
    ]

pub same_places : (m n : List ℕ) → length m ≡ length n → places_in m ≡ places_in n
same_places m n e = ap (λ l. min 256 (l / 2050)) e

cell_put : (m c : List ℕ) (p : ℕ) → p < length (memory_held m) → length c ≡ 2050
    → memory_held (put_mid (2050 * p) 2050 m c) ≡ set (memory_held m) p (cell_held c)
cell_put m c p h l =
    let n = put_mid (2050 * p) 2050 m c in
    let i : 2050 * p + 2050 ≤ length m = cell_within m p h in
    let s : places_in n ≡ places_in m = same_places n m (length_put (2050 * p) 2050 m c i l) in
    let cm = memory_count m in
    let cn = memory_count n in
    ext_get_or [] (memory_held n) (set (memory_held m) p (cell_held c))
    (omega (arith, length-set (memory_held m) p (cell_held c)))
    (λ j b. elim (cases_eq j p) [
      | inl q ↦ place_at n j (omega arith) ∙ ap (λ t. cell_held (cell t n)) q ∙ ap cell_held (cell_same m c p i l)
          ∙ sym (get_or-set_same (memory_held m) p (cell_held c) [] h)
          ∙ ap (λ t. get_or (set (memory_held m) p (cell_held c)) t []) (sym q)
      | inr ne ↦ place_at n j (omega arith) ∙ ap cell_held (cell_other m c p j i l ne)
          ∙ sym (place_at m j (omega arith)) ∙ sym (get_or-set_other (memory_held m) p j (cell_held c) [] ne)
    ])

-- the length and the bytes, and of the cell what lies past them
over_cell : ℕ → List ℕ → List ℕ → List ℕ
over_cell p bs m = over_front (frame bs) (take 2050 (drop (2050 * p) m))

over_length : (m bs : List ℕ) (p : ℕ) → p < length (memory_held m) → length bs ≤ 2048 → length (over_cell p bs m) ≡ 2050
unfolding over_cell
over_length m bs p h l =
    let i : 2050 * p + 2050 ≤ length m = cell_within m p h in
    let c = take 2050 (drop (2050 * p) m) in
    let lc : length c ≡ 2050 = length-take-le 2050 (drop (2050 * p) m) (omega (arith, length-drop (2050 * p) m)) in
    omega (arith, length-append (frame bs) (drop (length (frame bs)) c), length-drop (length (frame bs)) c)

-- framed bytes are a cell written over
framed_is : (m bs : List ℕ) (p : ℕ) → p < length (memory_held m) → length bs ≤ 2048
    → framed p bs m ≡ put_mid (2050 * p) 2050 m (over_cell p bs m)
unfolding framed over_cell
framed_is m bs p h l = sym (front_in_whole (2050 * p) 2050 (frame bs) m (cell_within m p h) (omega arith))

-- what the code leaves, where it lends k = 2,050 bytes from a on
pub put_framed : (m bs c : List ℕ) (p a k : ℕ) → p < length (memory_held m) → length bs ≤ 2048 → a ≡ 2050 * p → k ≡ 2050
    → c ≡ over_front (frame bs) (take k (drop a m)) → put_mid a k m c ≡ framed p bs m
unfolding over_cell
put_framed m bs c p a k h l ea ek ec =
    ap (put_mid a k m) ec
    ∙ ap (λ n. put_mid a n m (over_front (frame bs) (take n (drop a m)))) ek
    ∙ ap (λ b. put_mid b 2050 m (over_front (frame bs) (take 2050 (drop b m)))) ea
    ∙ sym (framed_is m bs p h l)

pub framed_held : (m bs : List ℕ) (p : ℕ) → p < length (memory_held m) → length bs ≤ 2048
    → memory_held (framed p bs m) ≡ set (memory_held m) p bs
unfolding over_cell
framed_held m bs p h l =
    ap memory_held (framed_is m bs p h l)
    ∙ cell_put m (over_cell p bs m) p h (over_length m bs p h l)
    ∙ ap (set (memory_held m) p) (frame_held bs (drop (length (frame bs)) (take 2050 (drop (2050 * p) m))) l)

pub framed_tail : (m bs : List ℕ) (p : ℕ) → p < length (memory_held m) → length bs ≤ 2048 → tail (framed p bs m) ≡ tail m
unfolding tail
framed_tail m bs p h l =
    let c = over_cell p bs m in
    let i : 2050 * p + 2050 ≤ length m = cell_within m p h in
    let n = put_mid (2050 * p) 2050 m c in
    let lc : length c ≡ 2050 = over_length m bs p h l in
    ap (λ t. drop (2050 * places_in t) t) (framed_is m bs p h l)
    ∙ ap (λ k. drop (2050 * k) n) (same_places n m (length_put (2050 * p) 2050 m c i lc))
    ∙ drop-put_mid (2050 * p) 2050 m c (2050 * places_in m) (omega (arith, memory_count m)) (omega arith) lc
