-- Decimal numbers: the value of digits, and which texts are numbers.
use Rattle.std.specs.Prelude.{ℕ, ◌+◌, ◌-◌, ◌*◌, cond, ◌&&◌, List, [], ◌∷◌, length, Some, None, Option, nat_le}
use Rattle.std.specs.Char.{is_ascii_digit}
use Rattle.std.specs.Str.{all_ascii_digits}

-- the digits go on from a number n: each makes ten times as much, and adds its own value (`0` is 48)
abbrev pub value_after : ℕ → List ℕ → ℕ
value_after n [] = n
value_after n (c ∷ cs) = value_after (10 * n + (c - 48)) cs

abbrev pub value : List ℕ → ℕ
value cs = value_after 0 cs

-- the number that cs writes: one digit or more, only digits, and at most `most`
abbrev pub number_of : ℕ → List ℕ → Option ℕ
number_of most cs = cond (nat_le 1 (length cs) && (all_ascii_digits cs && nat_le (value cs) most)) (Some (value cs)) None

-- n with the digit c after it, where c is one and the number does not pass `most`
abbrev pub digit_on : ℕ → ℕ → ℕ → Option ℕ
digit_on most n c = cond (is_ascii_digit c && nat_le (10 * n + (c - 48)) most) (Some (10 * n + (c - 48))) None
