-- The words of a line, and the two sides of `key=value`.
use Rattle.std.specs.Prelude.{ℕ, ◌+◌, Bool, false, cond, not, ◌||◌, List, [], ◌∷◌, map, length, take, drop, Some, None, Option, ◌==◌, nat_lt, slice_index}
use Rattle.std.specs.Borrow.{Bor}
use Rattle.std.specs.List.{prefix_len}

-- a space or a tab
abbrev pub is_gap : ℕ → Bool
is_gap b = b == 32 || b == 9

-- any other byte
abbrev pub in_word : ℕ → Bool
in_word b = not (is_gap b)

-- the word at hand goes on with the first byte of these
abbrev pub goes_on : List ℕ → Bool
goes_on [] = false
goes_on (b ∷ bs) = in_word b

-- b in front of the first word
abbrev pub onto : ℕ → List (List ℕ) → List (List ℕ)
onto b [] = (b ∷ []) ∷ []
onto b (w ∷ ws) = (b ∷ w) ∷ ws

-- the longest runs of bytes that are no gaps, in order
abbrev pub runs : List ℕ → List (List ℕ)
runs [] = []
runs (b ∷ bs) = cond (is_gap b) (runs bs) (cond (goes_on bs) (onto b (runs bs)) ((b ∷ []) ∷ runs bs))

-- begins with `#`
abbrev pub is_comment : List ℕ → Bool
is_comment w = slice_index w 0 == 35

-- the words before the first that begins a comment
abbrev pub uncommented : List (List ℕ) → List (List ℕ)
uncommented [] = []
uncommented (w ∷ ws) = cond (is_comment w) [] (w ∷ uncommented ws)

abbrev pub words_of : List ℕ → List (List ℕ)
words_of line = uncommented (runs line)

-- from the first word on
abbrev pub from_word : List ℕ → List ℕ
from_word bs = drop (prefix_len is_gap bs) bs

-- the first word, which is empty where there is none
abbrev pub first_word : List ℕ → List ℕ
first_word bs = take (prefix_len in_word (from_word bs)) (from_word bs)

-- what stands after it
abbrev pub after_word : List ℕ → List ℕ
after_word bs = drop (prefix_len in_word (from_word bs)) (from_word bs)

-- a first word with which the words end: there is none, or it begins a comment
abbrev pub ends_words : List ℕ → Bool
ends_words w = length w == 0 || is_comment w

-- the bytes of words that are parts of a line
abbrev pub seen : List (Bor (List ℕ)) → List (List ℕ)
seen ws = map (λ x. x.now) ws

-- another byte than `stop`
abbrev pub is_other : ℕ → ℕ → Bool
is_other stop b = not (b == stop)

-- how many bytes stand before the first `stop`, or all
abbrev pub len_before : ℕ → List ℕ → ℕ
len_before stop bs = prefix_len (is_other stop) bs

-- what stands before and after the first `=` (61)
abbrev pub key_value_of : List ℕ → Option (List ℕ × List ℕ)
key_value_of w = cond (nat_lt (len_before 61 w) (length w)) (Some (take (len_before 61 w) w, drop (len_before 61 w + 1) w)) None

-- the bytes of the two sides
abbrev pub seen_sides : Option (Bor (List ℕ) × Bor (List ℕ)) → Option (List ℕ × List ℕ)
seen_sides (Some s) = Some (s.0.now, s.1.now)
seen_sides None = None
