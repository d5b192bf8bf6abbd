-- The bytes that are kept of a line.
use Rattle.std.specs.Prelude.{ℕ, ◌+◌, ◌-◌, Bool, true, cond, not, ◌&&◌, List, [], ◌∷◌, ◌++◌, length, take, ◌==◌, nat_le, nat_lt, slice_index}

-- the bytes fit the line, of which at most `limit` are kept
abbrev pub fits : ℕ → List ℕ → List ℕ → Bool
fits limit line bs = nat_le (length line + length bs) limit

-- the line with the bytes after it, where they fit
abbrev pub kept_line : ℕ → List ℕ → List ℕ → List ℕ
kept_line limit line bs = cond (fits limit line bs) (line ++ bs) line

-- the last byte is a carriage return (13)
abbrev pub ends_in_return : List ℕ → Bool
ends_in_return line = nat_lt 0 (length line) && slice_index line (length line - 1) == 13

-- a carriage return at the end is dropped
abbrev pub without_return : List ℕ → List ℕ
without_return line = cond (ends_in_return line) (take (length line - 1) line) line

-- no line feed (10) among these
abbrev pub no_break : List ℕ → Bool
no_break [] = true
no_break (b ∷ bs) = not (b == 10) && no_break bs

-- a line within the limit, with no line feed in it
abbrev pub whole : ℕ → List ℕ → Bool
whole limit line = nat_le (length line) limit && no_break line
