-- The fields of a record as they are read: those at fixed offsets, and those with their length before them, each cut from
-- the record and tried by a test of its bytes.
use Rattle.std.specs.Prelude.{◌≡◌, ℕ, Bool, true, false, List, slice_index}
use Rattle.envelope.specs.Integers.{u16_at, u32_at}
use Rattle.envelope.specs.Views.{Seen, kind_number}
use Rattle.envelope.specs.Layout.{on_in, seen_at, fits_at}
use Rattle.envelope.specs.declared.fixed.Fixed.{Fixed}

-- the fields at fixed offsets are those of the record
pub record FixedIn (r : List ℕ) (f : Fixed) : Type 0 where
  pub kind : kind_number f.kind ≡ u16_at r 2
  pub todt : f.todt ≡ u32_at r 4
  pub to : f.to ≡ u16_at r 8
  pub ar : f.ar ≡ slice_index r 10
  pub vb : f.vb ≡ slice_index r 11
  pub code : f.code ≡ u16_at r 12
  pub on : f.on.now ≡ (on_in r).bytes

-- s is the field whose length stands at `at`, it does not overrun the record, and the test says that it is in form
pub record Cut (says : List ℕ → Bool → Type 0) (r : List ℕ) (at : ℕ) (s : Seen) : Type 0 where
  pub fits : fits_at r at ≡ true
  pub is : s ≡ seen_at r at
  pub form : says (seen_at r at).bytes true

-- the field overruns the record, or the test says that it is not in form
abbrev pub Broken : (List ℕ → Bool → Type 0) → List ℕ → ℕ → Type 0
Broken says r at = fits_at r at ≡ true → says (seen_at r at).bytes false
