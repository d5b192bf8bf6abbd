-- Reading what was written, and writing what was read.
use Rattle.std.specs.Prelude.{◌≡◌, ℕ, ◌+◌, ◌<◌, ◌≤◌, List, length, take, IfOk, Ok, Result, slice_index}
use Rattle.text.specs.Said.{Said}
use Rattle.envelope.specs.Views.{Whole, whole}
use Rattle.envelope.specs.Decoding.{decode}
use Rattle.envelope_fields.specs.Plain.{Plain, plain_of}
use Rattle.writing.specs.Encoding.{encode}
use Rattle.writing.specs.declared.fault.WriteFault.{WriteFault}

-- the fields with the places that they have once written
abbrev pub placed : Plain → Whole
placed d = whole d.kind d.code (record {
  todt = d.todt;
  to = d.to;
  ar = d.ar;
  vb = d.vb;
  on = record { bytes = d.on; at = 14 };
  fr = record { bytes = d.fr; at = 36 };
  ad = record { bytes = d.ad; at = 38 + length d.fr };
  df = record { bytes = d.df; at = 40 + length d.fr + length d.ad };
  ct = record { bytes = d.ct; at = 42 + length d.fr + length d.ad + length d.df };
  rest = record { bytes = d.rest; at = 42 + length d.fr + length d.ad + length d.df + length d.ct };
})

-- the first n bytes of the buffer are a record, which reads as just these fields
pub record ReadsBack (d : Plain) (n : ℕ) (buf : List ℕ) : Type 0 where
  pub least : 49 ≤ n
  pub most : n ≤ 2048
  pub within : n ≤ length buf
  pub bytes : take n buf ≡ encode d
  pub reads : ◌≡◌ {A = Result Whole Said} (decode (take n buf)) (Ok (placed d))

-- each element is a byte
abbrev pub Bytes : List ℕ → Type 0
Bytes r = (i : ℕ) → slice_index r i < 256

-- a record that reads as these fields is what is written, wherever there is room for it
pub record OwnBytes (d : Plain) (before : List ℕ) (answer : Result ℕ WriteFault) (after : List ℕ) : Type 0 where
  pub same : (rec : List ℕ) (w : Whole) → Bytes rec → ◌≡◌ {A = Result Whole Said} (decode rec) (Ok w) → plain_of w ≡ d → IfOk answer (λ n. take n after ≡ rec)
  pub written : (rec : List ℕ) (w : Whole) → ◌≡◌ {A = Result Whole Said} (decode rec) (Ok w) → plain_of w ≡ d → length rec ≤ length before → answer ≡ Ok (length rec)
