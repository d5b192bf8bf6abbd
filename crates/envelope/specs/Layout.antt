-- The layout of a record, as rows of a table: each field that has a form, where it starts, and whether it is in form.
use Rattle.std.specs.Prelude.{ℕ, ◌+◌, Bool, cond, ◌&&◌, List, [], ◌∷◌, ◌++◌, length, take, drop, Some, None, Option, nat_le, slice_index}
use Rattle.text.specs.Forms.{is_address, is_dataflow, is_operation_number, is_contacts}
use Rattle.text.specs.Said.{Said, says}
use Rattle.envelope.specs.Integers.{u16_at, u32_at}
use Rattle.envelope.specs.Limits.{timeout_ok, code_ok}
use Rattle.envelope.specs.Views.{Seen, Fields}

-- a field with its length before it, the length at `at`: where the next field begins, and the field's bytes
abbrev pub next : List ℕ → ℕ → ℕ
next r at = at + 2 + u16_at r at

abbrev pub seen_at : List ℕ → ℕ → Seen
seen_at r at = record { bytes = take (u16_at r at) (drop (at + 2) r); at = at + 2 }

-- neither the length nor the bytes overrun the record
abbrev pub fits_at : List ℕ → ℕ → Bool
fits_at r at = nat_le (at + 2) (length r) && nat_le (next r at) (length r)

abbrev pub field_ok : (List ℕ → Bool) → List ℕ → ℕ → Bool
field_ok form r at = fits_at r at && form (seen_at r at).bytes

-- where the fields that move begin, and the rest after them
abbrev pub ad_at : List ℕ → ℕ
ad_at r = next r 34

abbrev pub df_at : List ℕ → ℕ
df_at r = next r (ad_at r)

abbrev pub ct_at : List ℕ → ℕ
ct_at r = next r (df_at r)

abbrev pub rest_at : List ℕ → ℕ
rest_at r = next r (ct_at r)

-- the operation number
abbrev pub on_in : List ℕ → Seen
on_in r = record { bytes = take 20 (drop 14 r); at = 14 }

pub record Row : Type 0 where
  pub field : ℕ
  pub start : ℕ
  pub ok : Bool

abbrev pub row : ℕ → ℕ → Bool → Row
row n s b = record { field = n; start = s; ok = b }

-- the fields at fixed offsets, whether they were read or are to be written
abbrev pub rows_of_fixed : (kind todt to ar vb code : ℕ) → List ℕ → List Row
rows_of_fixed kind todt to ar vb code on =
    row 4 8 (timeout_ok to todt)
    ∷ row 5 10 (nat_le ar 1)
    ∷ row 6 11 (nat_le vb 4)
    ∷ row 7 12 (code_ok kind code)
    ∷ row 8 14 (is_operation_number on)
    ∷ []

abbrev pub fixed_rows : List ℕ → List Row
fixed_rows r = rows_of_fixed (u16_at r 2) (u32_at r 4) (u16_at r 8) (slice_index r 10) (slice_index r 11) (u16_at r 12) (on_in r).bytes

-- the fields with their length before them
abbrev pub moving_rows : List ℕ → List Row
moving_rows r =
    row 9 34 (field_ok is_address r 34)
    ∷ row 10 (ad_at r) (field_ok is_address r (ad_at r))
    ∷ row 11 (df_at r) (field_ok is_dataflow r (df_at r))
    ∷ row 12 (ct_at r) (field_ok is_contacts r (ct_at r))
    ∷ []

abbrev pub rows : List ℕ → List Row
rows r = fixed_rows r ++ moving_rows r

-- the refusal for the first row that is not in form
abbrev pub first_broken : List Row → Option Said
first_broken [] = None
first_broken (f ∷ fs) = cond f.ok (first_broken fs) (Some (says 403 (f.field ∷ f.start ∷ [])))

abbrev pub fields : List ℕ → Fields
fields r = record {
  todt = u32_at r 4;
  to = u16_at r 8;
  ar = slice_index r 10;
  vb = slice_index r 11;
  on = on_in r;
  fr = seen_at r 34;
  ad = seen_at r (ad_at r);
  df = seen_at r (df_at r);
  ct = seen_at r (ct_at r);
  rest = record { bytes = drop (rest_at r) r; at = rest_at r };
}
