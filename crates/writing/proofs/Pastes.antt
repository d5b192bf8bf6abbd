-- Bytes written into a buffer one after the other.
use Rattle.std.proofs.Common.{◌≡◌, ℕ, ◌+◌, ◌≤◌, List, [], ◌++◌, length, take, drop, sym, refl, ap, ◌∙◌, append_assoc, length-append, take-append-drop, arith}
use borrow.Rule.Slice.PartMut.{put_mid}
use Rattle.std.proofs.lemmas.List.{drop-drop, take_at, drop_at, length-take-le}
use Rattle.writing.specs.Buffers.{pasted, filled}
use Rattle.writing.specs.Encoding.{prefixed}

-- what `copy_from_slice` into a part leaves
pub put_is : (a k : ℕ) (xs ys bs : List ℕ) → ys ≡ bs → k ≡ length bs → put_mid a k xs ys ≡ pasted a bs xs
put_is a k xs ys bs e n =
    let q : drop k (drop a xs) ≡ drop (a + length bs) xs = drop-drop k a xs ∙ ap (λ m. drop (a + m) xs) n in
    λ i. take a xs ++ (e i ++ q i)

-- drop past the front
drop_past : (p q : List ℕ) (a n : ℕ) → length p ≡ a → drop (a + n) (p ++ q) ≡ drop n q
drop_past p q a n e = sym (drop-drop n a (p ++ q)) ∙ ap (drop n) (drop_at p q a e)

-- one more piece after those that are there
pub put_more : (done bs orig buf after : List ℕ) (at : ℕ) → length done ≡ at → buf ≡ filled done orig → after ≡ pasted at bs buf → after ≡ filled (done ++ bs) orig
put_more done bs orig buf after at e f g =
    let rest = drop (length done) orig in
    let d : drop (at + length bs) (done ++ rest) ≡ drop (length (done ++ bs)) orig =
    drop_past done rest at (length bs) e ∙ drop-drop (length bs) (length done) orig ∙ ap (λ m. drop m orig) (sym (length-append done bs)) in
    g ∙ ap (pasted at bs) f ∙ (λ i. take_at done rest at e i ++ (bs ++ d i)) ∙ sym (append_assoc done bs (drop (length (done ++ bs)) orig))

pub put_none : (orig : List ℕ) → orig ≡ filled [] orig
put_none orig = refl

-- two pieces, one right after the other, are one
pub put_twice : (at at2 : ℕ) (xs ys buf one two : List ℕ) → at ≤ length buf → at2 ≡ at + length xs → one ≡ pasted at xs buf → two ≡ pasted at2 ys one → two ≡ pasted at (xs ++ ys) buf
put_twice at at2 xs ys buf one two h e f g =
    let l = length-take-le at buf h in
    let s : buf ≡ filled (take at buf) buf = sym (take-append-drop at buf) ∙ ap (λ n. take at buf ++ drop n buf) (sym l) in
    let a = put_more (take at buf) xs buf buf one at l s f in
    let b = put_more (take at buf ++ xs) ys buf one two at2 (length-append (take at buf) xs ∙ ap (λ n. n + length xs) l ∙ sym e) a g in
    let whole = put_more (take at buf) (xs ++ ys) buf buf (pasted at (xs ++ ys) buf) at l s refl in
    b ∙ ap (λ d. filled d buf) (append_assoc (take at buf) xs ys) ∙ sym whole

-- the buffer that held `orig` now has `done` at its front, which ends at `at`
pub record Wrote (orig buf : List ℕ) (at : ℕ) (done : List ℕ) : Type 0 where
  pub here : length done ≡ at
  pub now : buf ≡ filled done orig

-- nothing is written yet
pub begun : (orig : List ℕ) {at : ℕ} → at ≡ 0 → Wrote orig orig at []
begun orig e = record { here = sym e; now = refl }

-- the two bytes of a length, and what it counts
pub two_more : (at : ℕ) (bs : List ℕ) → at + 2 + length bs ≡ at + length (prefixed bs)
two_more at bs = omega arith

pub wrote_more : {orig buf : List ℕ} {at : ℕ} {done : List ℕ} (bs after : List ℕ) (end : ℕ) → Wrote orig buf at done → after ≡ pasted at bs buf → end ≡ at + length bs → Wrote orig after end (done ++ bs)
wrote_more {orig} {buf} {at} {done} bs after end w e n = record {
  here = length-append done bs ∙ ap (λ m. m + length bs) w.here ∙ sym n;
  now = put_more done bs orig buf after at w.here w.now e;
}
