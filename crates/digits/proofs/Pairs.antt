-- Hex digits two by two.
use Rattle.std.proofs.Common.{◌≡◌, ℕ, ◌-◌, ◌≤◌, List, [], ◌∷◌, ◌++◌, length, get_or, take, drop, Some, None, Option, sym, refl, ap, ◌∙◌, append_assoc, arith}
use Rattle.std.proofs.lemmas.List.{take_all}
use Rattle.digits.specs.Hexes.{nibble, paired, in_front, hex_of}

-- the bytes so far, and those after them, where they are some
abbrev pub joined_to : List ℕ → Option (List ℕ) → Option (List ℕ)
joined_to xs (Some ys) = Some (xs ++ ys)
joined_to xs None = None

joined_push : (xs : List ℕ) (x : ℕ) (o : Option (List ℕ)) → joined_to xs (in_front (Some x) o) ≡ joined_to (xs ++ (x ∷ [])) o
joined_push xs x (Some ys) = ap Some (sym (append_assoc xs (x ∷ []) ys))
joined_push xs x None = refl

-- two digits more
pub hex_more : (out xs : List ℕ) (x : ℕ) → 2 ≤ length xs → Some x ≡ paired (nibble (get_or xs 0 0)) (nibble (get_or xs 1 0)) → joined_to out (hex_of xs) ≡ joined_to (out ++ (x ∷ [])) (hex_of (take (length xs - 2) (drop 2 xs)))
hex_more out [] x two e = absurd (omega arith)
hex_more out (a ∷ []) x two e = absurd (omega arith)
hex_more out (a ∷ (b ∷ cs)) x two e =
    ap (λ o. joined_to out (in_front o (hex_of cs))) (sym e)
    ∙ joined_push out x (hex_of cs)
    ∙ ap (λ (t : List ℕ). joined_to (out ++ (x ∷ [])) (hex_of t)) (sym (take_all (length (a ∷ b ∷ cs) - 2) cs (omega arith)))
