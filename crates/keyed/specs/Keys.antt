-- Words of the form `key=value`.
use Rattle.std.specs.Prelude.{ℕ, Bool, cond, count_by, List, [], ◌∷◌, is_some, Some, None, Option}
use Rattle.std.specs.Str.{bytes_eq}
use Rattle.words.specs.Cuts.{key_value_of}

abbrev pub under_key : List ℕ → Option (List ℕ × List ℕ) → Option (List ℕ)
under_key name (Some sides) = cond (bytes_eq sides.0 name) (Some sides.1) None
under_key name None = None

-- the value of a word with this key
abbrev pub value_under : List ℕ → List ℕ → Option (List ℕ)
value_under name w = under_key name (key_value_of w)

abbrev pub has_key : List ℕ → List ℕ → Bool
has_key name w = is_some (value_under name w)

-- how many words have this key
abbrev pub count : List ℕ → List (List ℕ) → ℕ
count name ws = count_by (has_key name) ws

abbrev pub or_else : {A : Type 0} → Option A → Option A → Option A
or_else (Some x) other = Some x
or_else None other = other

-- the value of the first word with this key
abbrev pub find : List ℕ → List (List ℕ) → Option (List ℕ)
find name [] = None
find name (w ∷ ws) = or_else (value_under name w) (find name ws)
