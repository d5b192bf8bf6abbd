-- Letter case, and the forms of the texts in an envelope. A text is a list of bytes.
use Rattle.std.specs.Prelude.{ℕ, Bool, true, false, cond, ◌&&◌, ◌||◌, List, [], ◌∷◌, map, length, take, codes, ◌==◌, nat_le}
use Rattle.std.specs.List.{list_all}
use Rattle.std.specs.Char.{is_ascii_alphanumeric, to_ascii_lowercase}
use Rattle.std.specs.Str.{bytes_eq}

-- each byte passes the test
abbrev pub all : (ℕ → Bool) → List ℕ → Bool
all p bs = list_all p bs

-- each byte is from lo to hi
abbrev pub bytes_from : ℕ → ℕ → List ℕ → Bool
bytes_from lo hi bs = all (λ b. nat_le lo b && nat_le b hi) bs

-- equal but for the case of letters
abbrev pub same_text : List ℕ → List ℕ → Bool
same_text a b = bytes_eq (map to_ascii_lowercase a) (map to_ascii_lowercase b)

-- s begins with p, but for the case of letters
abbrev pub begins_with : List ℕ → List ℕ → Bool
begins_with p s = same_text (take (length p) s) p

-- a letter, a digit, '-' or '_'
abbrev pub name_byte : ℕ → Bool
name_byte b = is_ascii_alphanumeric b || (b == 45 || b == 95)

-- names joined by single colons (a colon is 58); `begun` tells whether the name at hand has a byte already
abbrev pub names_from : Bool → List ℕ → Bool
names_from begun [] = begun
names_from begun (b ∷ bs) = cond (name_byte b) (names_from true bs) (cond (b == 58 && begun) (names_from false bs) false)

abbrev pub is_address : List ℕ → Bool
is_address bs = nat_le 1 (length bs) && (nat_le (length bs) 64 && names_from false bs)

-- the fixed beginning that a dataflow has one of
abbrev pub has_scheme : List ℕ → Bool
has_scheme bs = begins_with (codes "urn:") bs || (begins_with (codes "http://") bs || begins_with (codes "https://") bs)

abbrev pub is_dataflow : List ℕ → Bool
is_dataflow bs = nat_le 5 (length bs) && (nat_le (length bs) 256 && (bytes_from 33 126 bs && has_scheme bs))

abbrev pub is_operation_number : List ℕ → Bool
is_operation_number bs = length bs == 20 && all is_ascii_alphanumeric bs

abbrev pub is_contacts : List ℕ → Bool
is_contacts bs = nat_le (length bs) 128 && bytes_from 32 126 bs
