-- A list that is filled with one value from the front, a step at a time.
use Rattle.std.proofs.Common.{◌≡◌, ℕ, ◌+◌, ◌<◌, List, [], ◌∷◌, ◌++◌, length, get_or, drop, set, replicate, sym, ap, ◌∙◌, arith}
use Rattle.std.proofs.lemmas.List.{drop_more, set_at, length-replicate, replicate_more, append_assoc, append-nil, drop_all}

-- xs filled below i is ys, and zs is ys with one more
pub fill_more : {X : Type 0} (xs : List X) (y : X) (ys zs : List X) (i : ℕ) → i < length xs
    → ys ≡ replicate i y ++ drop i xs → zs ≡ set ys i y → zs ≡ replicate (i + 1) y ++ drop (i + 1) xs
fill_more xs y ys zs i h e f =
    f
    ∙ ap (λ t. set t i y) e
    ∙ ap (λ t. set (replicate i y ++ t) i y) (drop_more xs i y h)
    ∙ set_at (replicate i y) (get_or xs i y) (drop (i + 1) xs) y i (length-replicate i y)
    ∙ sym (append_assoc (replicate i y) (y ∷ []) (drop (i + 1) xs))
    ∙ ap (λ t. t ++ drop (i + 1) xs) (replicate_more i y)

-- xs filled below its length holds nothing else
pub fill_all : {X : Type 0} (xs : List X) (y : X) (ys : List X) (i n : ℕ) → n ≡ length xs → i ≡ n
    → ys ≡ replicate i y ++ drop i xs → ys ≡ replicate n y
fill_all xs y ys i n l j e =
    e
    ∙ ap (λ t. replicate i y ++ t) (drop_all i xs (omega arith))
    ∙ append-nil (replicate i y)
    ∙ ap (λ k. replicate k y) j
