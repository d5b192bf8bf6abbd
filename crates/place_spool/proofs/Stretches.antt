-- A stretch of z bytes, after k = z bytes from a position on are written over.
use Rattle.std.proofs.Common.{◌≡◌, ℕ, ◌+◌, ◌-◌, ◌≤◌, List, ◌++◌, length, take, drop, sym, ap, ◌∙◌, arith}
use borrow.Rule.Slice.PartMut.{put_mid}
use Rattle.std.specs.List.{between}
use Rattle.std.proofs.lemmas.List.{length-take-le, length-drop, length-append, append_assoc, drop-append-le, take-append-drop, drop-drop}
use Rattle.std.proofs.lemmas.Slice.{between_is, between-put_mid, take-put_mid_below, drop-put_mid}
use Rattle.spool.specs.Meaning.{over_front}
use Rattle.place_spool.specs.Memory.{over_at}

as_between : (a z : ℕ) (xs : List ℕ) → take z (drop a xs) ≡ between a (a + z) xs
as_between a z xs = let q : z ≡ (a + z) - a = omega arith in ap (λ n. take n (drop a xs)) q

pub stretch_same : (a z k : ℕ) (m c : List ℕ) → k ≡ z → a + z ≤ length m → length c ≡ z
    → take z (drop a (put_mid a k m c)) ≡ c
stretch_same a z k m c e h l =
    as_between a z (put_mid a k m c) ∙ between-put_mid a k m c (a + z) (omega arith) (omega arith)

pub stretch_below : (a z k b : ℕ) (m c : List ℕ) → b + z ≤ a → a ≤ length m
    → take z (drop b (put_mid a k m c)) ≡ take z (drop b m)
stretch_below a z k b m c h l =
    as_between b z (put_mid a k m c)
    ∙ between_is (put_mid a k m c) b (b + z)
    ∙ ap (drop b) (take-put_mid_below a k m c (b + z) h l)
    ∙ sym (between_is m b (b + z))
    ∙ sym (as_between b z m)

pub stretch_above : (a z k b : ℕ) (m c : List ℕ) → a + k ≤ b → a ≤ length m → length c ≡ k
    → take z (drop b (put_mid a k m c)) ≡ take z (drop b m)
stretch_above a z k b m c h l e = ap (take z) (drop-put_mid a k m c b h l e)

pub length_put : (a k : ℕ) (m c : List ℕ) → a + k ≤ length m → length c ≡ k → length (put_mid a k m c) ≡ length m
length_put a k m c h l =
    let la : length (take a m) ≡ a = length-take-le a m (omega arith) in
    let ld = length-drop k (drop a m) in
    let ld2 = length-drop a m in
    let l1 = length-append (take a m) (c ++ drop k (drop a m)) in
    let l2 = length-append c (drop k (drop a m)) in
    omega arith

-- what is written over the front of a part is written there in the whole
pub front_in_whole : (a k : ℕ) (f m : List ℕ) → a + k ≤ length m → length f ≤ k
    → put_mid a k m (over_front f (take k (drop a m))) ≡ over_at a f m
front_in_whole a k f m h l =
    let d = drop a m in
    let part : length (take k d) ≡ k = length-take-le k d (omega (arith, length-drop a m)) in
    ap (λ t. take a m ++ t) (
    append_assoc f (drop (length f) (take k d)) (drop k d)
    ∙ ap (λ t. f ++ t) (
    sym (drop-append-le (length f) (take k d) (drop k d) (omega arith))
    ∙ ap (drop (length f)) (take-append-drop k d)
    ∙ drop-drop (length f) a m
    )
    )
