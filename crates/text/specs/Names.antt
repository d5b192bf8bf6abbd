-- The names of an address: what stands between its colons.
use Rattle.std.specs.Prelude.{◌≡◌, ℕ, suc, ◌≤◌, Bool, true, false, cond, ◌&&◌, List, [], ◌∷◌, length, Some, None, Option, ◌==◌, nat_le}
use Rattle.std.specs.List.{list_all, slice_split, onto_first, join_with_byte}
use Rattle.text.specs.Forms.{all, same_text, name_byte, is_address}

-- b in front of the first name
abbrev pub onto : ℕ → List (List ℕ) → List (List ℕ)
onto b ns = onto_first b ns

abbrev pub names : List ℕ → List (List ℕ)
names bs = slice_split (λ b. b == 58) bs

-- the length of the first name
abbrev pub name_len : List ℕ → ℕ
name_len [] = 0
name_len (b ∷ bs) = cond (b == 58) 0 (suc (name_len bs))

-- the first list's names are the first names of the second
abbrev pub first_names : List (List ℕ) → List (List ℕ) → Bool
first_names [] ts = true
first_names (n ∷ ns) [] = false
first_names (n ∷ ns) (t ∷ ts) = same_text n t && first_names ns ts

-- a non-empty run of name bytes
abbrev pub is_name : List ℕ → Bool
is_name n = nat_le 1 (length n) && all name_byte n

abbrev pub all_names : List (List ℕ) → Bool
all_names ns = list_all is_name ns

-- names with a colon between each two
abbrev pub joined : List (List ℕ) → List ℕ
joined ns = join_with_byte 58 ns

-- whether the name at hand has a byte after b, `begun` where it had one before; none where b may not stand there
abbrev pub begun_after : Bool → ℕ → Option Bool
begun_after begun b = cond (name_byte b) (Some true) (cond (b == 58 && begun) (Some false) None)

-- a text that is one or more lawful names joined by single colons, 64 bytes or fewer in all
pub record Named (bs : List ℕ) : Type 0 where
  pub parts : List (List ℕ)
  pub some : 1 ≤ length parts
  pub lawful : all_names parts ≡ true
  pub spelled : joined parts ≡ bs
  pub short : length bs ≤ 64

-- the test by bytes is true of just the texts that are joined of names
pub record ExactlyNames (bs : List ℕ) : Type 0 where
  pub only : is_address bs ≡ true → Named bs
  pub every : Named bs → is_address bs ≡ true
