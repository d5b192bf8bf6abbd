-- Which keyed words may stand after `message` and `status`, and which must.
use Rattle.std.specs.Prelude.{ℕ, Bool, ◌&&◌, ◌||◌, List, [], ◌∷◌, codes, ◌==◌, nat_le}
use Rattle.std.specs.List.{list_all, list_any}
use Rattle.envelope.specs.declared.parts.Kind.{Kind}
use Rattle.envelope.specs.declared.parts.Kind.TheVariants.{Message, Status}
use Rattle.keyed.specs.Keys.{has_key, count}

-- one of these
abbrev pub any_key : List (List ℕ) → List ℕ → Bool
any_key names w = list_any (λ name. has_key name w) names

-- numbers and texts that both kinds have
abbrev pub number_key : List ℕ → Bool
number_key w = any_key (codes "todt" ∷ codes "to" ∷ codes "ar" ∷ codes "vb" ∷ []) w

abbrev pub text_key : List ℕ → Bool
text_key w = any_key (codes "on" ∷ codes "fr" ∷ codes "ad" ∷ codes "df" ∷ codes "ct" ∷ []) w

-- what one kind has alone
abbrev pub own_key : Kind → List ℕ → Bool
own_key Message w = has_key (codes "body") w
own_key Status w = has_key (codes "code") w || has_key (codes "text") w

abbrev pub key_of : Kind → List ℕ → Bool
key_of k w = number_key w || (text_key w || own_key k w)

abbrev pub all_keys : Kind → List (List ℕ) → Bool
all_keys k ws = list_all (key_of k) ws

abbrev pub once : List ℕ → List (List ℕ) → Bool
once name ws = count name ws == 1

abbrev pub at_most_once : List ℕ → List (List ℕ) → Bool
at_most_once name ws = nat_le (count name ws) 1

abbrev pub all_once : List (List ℕ) → List (List ℕ) → Bool
all_once names ws = list_all (λ name. once name ws) names

abbrev pub all_at_most_once : List (List ℕ) → List (List ℕ) → Bool
all_at_most_once names ws = list_all (λ name. at_most_once name ws) names

abbrev pub required : List (List ℕ) → Bool
required ws = all_once (codes "todt" ∷ codes "on" ∷ codes "fr" ∷ codes "ad" ∷ codes "df" ∷ []) ws

abbrev pub optional : List (List ℕ) → Bool
optional ws = all_at_most_once (codes "to" ∷ codes "ar" ∷ codes "vb" ∷ codes "ct" ∷ []) ws

abbrev pub own : Kind → List (List ℕ) → Bool
own Message ws = at_most_once (codes "body") ws
own Status ws = once (codes "code") ws && at_most_once (codes "text") ws

abbrev pub is_shape : Kind → List (List ℕ) → Bool
is_shape k ws = all_keys k ws && (required ws && (optional ws && own k ws))
