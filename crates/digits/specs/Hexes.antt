-- Bytes as pairs of hex digits.
use Rattle.std.specs.Prelude.{ℕ, ◌+◌, ◌-◌, ◌*◌, ◌/◌, ◌%◌, Bool, true, cond, ◌&&◌, List, [], ◌∷◌, Some, None, Option, nat_le, nat_lt}

-- lo to hi
abbrev pub among : ℕ → ℕ → ℕ → Bool
among lo hi c = nat_le lo c && nat_le c hi

-- what a hex digit stands for: `0` to `9`, `a` to `f`, `A` to `F`
abbrev pub nibble : ℕ → Option ℕ
nibble c = cond (among 48 57 c) (Some (c - 48)) (cond (among 97 102 c) (Some (10 + (c - 97))) (cond (among 65 70 c) (Some (10 + (c - 65))) None))

-- a byte from its high and its low half
abbrev pub paired : Option ℕ → Option ℕ → Option ℕ
paired (Some high) (Some low) = Some (16 * high + low)
paired (Some high) None = None
paired None low = None

-- a byte, where it is one, in front of the bytes after it, where they are some
abbrev pub in_front : Option ℕ → Option (List ℕ) → Option (List ℕ)
in_front (Some b) (Some bs) = Some (b ∷ bs)
in_front (Some b) None = None
in_front None bs = None

-- the bytes that an even count of hex digits writes
abbrev pub hex_of : List ℕ → Option (List ℕ)
hex_of [] = Some []
hex_of (a ∷ []) = None
hex_of (a ∷ (b ∷ cs)) = in_front (paired (nibble a) (nibble b)) (hex_of cs)

-- the hex digit, in small letters, of a number below 16
abbrev pub hex_digit : ℕ → ℕ
hex_digit n = cond (nat_lt n 10) (48 + n) (87 + n)

-- two digits a byte, the high half first
abbrev pub hex_text : List ℕ → List ℕ
hex_text [] = []
hex_text (b ∷ bs) = hex_digit (b / 16) ∷ (hex_digit (b % 16) ∷ hex_text bs)

-- each is a byte
abbrev pub all_bytes : List ℕ → Bool
all_bytes [] = true
all_bytes (b ∷ bs) = nat_lt b 256 && all_bytes bs
