-- Texts of up to 64 bytes in an array.
use Rattle.std.specs.Prelude.{◌≡◌, ℕ, Bool, cond, ◌&&◌, List, map, length, take, replicate, Some, None, Option, nat_le}
use Rattle.std.specs.Cmp.{IsEquivalence, on_equiv}
use Rattle.std.proofs.lemmas.Cmp.{nat_list_eq_equiv}
use Rattle.std.specs.Char.{to_ascii_lowercase}
use Rattle.text.specs.Forms.{is_address, is_operation_number, same_text}
use Rattle.text.specs.Padding.{padded}
use Rattle.short_text.specs.declared.short_text.ShortText.{ShortText}

abbrev pub keeping : List ℕ → ShortText
keeping bs = record { bytes = padded 64 bs; len = length bs }

-- zeros after the text, and none where it is too long
abbrev pub kept_text : List ℕ → Option ShortText
kept_text bs = cond (nat_le (length bs) 64) (Some (keeping bs)) None

abbrev pub empty_text : ShortText
empty_text = record { bytes = replicate 64 0; len = 0 }

abbrev pub text_of : ShortText → List ℕ
text_of s = take s.len s.bytes

abbrev pub holds_address : ShortText → Bool
holds_address s = nat_le s.len 64 && is_address (text_of s)

abbrev pub holds_operation_number : ShortText → Bool
holds_operation_number s = nat_le s.len 64 && is_operation_number (text_of s)

-- equal but for the case of letters
abbrev pub same_short_text : ShortText → ShortText → Bool
same_short_text a b = same_text (text_of a) (text_of b)

pub short_text_equiv : IsEquivalence same_short_text
short_text_equiv = on_equiv (λ s. map to_ascii_lowercase (text_of s)) nat_list_eq_equiv

-- s gives back the bytes that it was made of, and is lawful where they are
pub record Holds (bs : List ℕ) (s : ShortText) : Type 0 where
  pub text : text_of s ≡ bs
  pub address : holds_address s ≡ is_address bs
  pub operation_number : holds_operation_number s ≡ is_operation_number bs
