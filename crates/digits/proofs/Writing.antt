-- Hex digits that are written, and read again.
use Rattle.std.proofs.Common.{◌≡◌, ℕ, ◌+◌, ◌*◌, ◌/◌, ◌%◌, ◌<◌, true, ltb, List, [], ◌∷◌, ◌++◌, length, get_or, take, Some, sym, refl, ap, ◌∙◌, append_assoc, arith}
use Rattle.std.proofs.lemmas.List.{take_more}
use Rattle.std.proofs.lemmas.Bool.{and_parts, ltb-true}
use Rattle.std.proofs.lemmas.Bool.Decides.{nat_tests}
use Rattle.digits.specs.Hexes.{nibble, paired, in_front, hex_of, hex_digit, hex_text, all_bytes}

text_append : (xs ys : List ℕ) → hex_text (xs ++ ys) ≡ hex_text xs ++ hex_text ys
text_append [] ys = refl
text_append (x ∷ xs) ys = ap (λ (t : List ℕ). hex_digit (x / 16) ∷ (hex_digit (x % 16) ∷ t)) (text_append xs ys)

-- the digits of one byte more
pub text_more : (out xs : List ℕ) (i : ℕ) → i < length xs → (out ++ hex_text (take i xs)) ++ hex_text (get_or xs i 0 ∷ []) ≡ out ++ hex_text (take (i + 1) xs)
text_more out xs i lt =
    append_assoc out (hex_text (take i xs)) (hex_text (get_or xs i 0 ∷ []))
    ∙ ap (λ (t : List ℕ). out ++ t) (sym (ap hex_text (take_more xs i 0 lt) ∙ text_append (take i xs) (get_or xs i 0 ∷ [])))

nibble_back : (n : ℕ) → n < 16 → nibble (hex_digit n) ≡ Some n
nibble_back n h = grind (arith, nat_tests)

-- the digits of bytes are read as those bytes
pub reads_back : (bs : List ℕ) → all_bytes bs ≡ true → hex_of (hex_text bs) ≡ Some bs
reads_back [] h = refl
reads_back (b ∷ bs) h =
    let p = and_parts (ltb b 256) (all_bytes bs) h in
    let small : b < 256 = ltb-true b 256 p.0 in
    let high : nibble (hex_digit (b / 16)) ≡ Some (b / 16) = nibble_back (b / 16) (omega arith) in
    let low : nibble (hex_digit (b % 16)) ≡ Some (b % 16) = nibble_back (b % 16) (omega arith) in
    let whole : 16 * (b / 16) + b % 16 ≡ b = omega arith in
    (λ i. in_front (paired (high i) (low i)) (reads_back bs p.1 i)) ∙ ap (λ (x : ℕ). Some (x ∷ bs)) whole
