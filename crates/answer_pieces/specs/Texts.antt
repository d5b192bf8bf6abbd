-- How a text stands in an answer.
use Rattle.std.specs.Prelude.{ℕ, Bool, cond, not, ◌&&◌, List, [], ◌∷◌, length, is_some, codes, decimal, ◌==◌, nat_le}
use Rattle.std.specs.List.{list_all}
use Rattle.arguments.specs.Values.{after_mark}
use Rattle.digits.specs.Hexes.{hex_text}

-- a byte that can stand in a word: 33 to 126, and no `#`
abbrev pub plain_byte : ℕ → Bool
plain_byte b = nat_le 33 b && (nat_le b 126 && not (b == 35))

abbrev pub plain_bytes : List ℕ → Bool
plain_bytes bs = list_all plain_byte bs

-- not empty, not to be taken for hex digits, and each byte plain
abbrev pub is_plain : List ℕ → Bool
is_plain bs = nat_le 1 (length bs) && (not (is_some (after_mark bs)) && plain_bytes bs)

-- as it stands, or in hex digits
abbrev pub text_pieces : List ℕ → List (List ℕ)
text_pieces bs = cond (is_plain bs) (bs ∷ []) (codes "0x" ∷ hex_text bs ∷ [])

abbrev pub keyed_text : List ℕ → List ℕ → List (List ℕ)
keyed_text key bs = key ∷ text_pieces bs

abbrev pub keyed_number : List ℕ → ℕ → List (List ℕ)
keyed_number key n = key ∷ decimal n ∷ []
