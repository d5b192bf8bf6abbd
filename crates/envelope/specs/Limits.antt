-- The bounds of the fields that are numbers.
use Rattle.std.specs.Prelude.{ℕ, Bool, cond, ◌&&◌, ◌||◌, List, length, ◌==◌, nat_le}
use Rattle.envelope.specs.Integers.{u16_at}

-- the bytes of a record, which its first field counts
abbrev pub length_ok : List ℕ → Bool
length_ok r = nat_le 49 (length r) && (nat_le (length r) 2048 && u16_at r 0 == length r)

-- 1 is a message, 2 a status
abbrev pub kind_ok : ℕ → Bool
kind_ok k = k == 1 || k == 2

abbrev pub timeout_ok : ℕ → ℕ → Bool
timeout_ok to todt = nat_le 1 to && (nat_le to 600 && nat_le to todt)

abbrev pub code_ok : ℕ → ℕ → Bool
code_ok k c = cond (k == 1) (c == 0) ((nat_le 100 c && nat_le c 199) || (nat_le 400 c && nat_le c 499))
