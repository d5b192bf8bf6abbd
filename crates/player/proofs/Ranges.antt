-- The time in a record of bytes is of 32 bits.
use Rattle.std.proofs.Common.{ℕ, ◌+◌, ◌*◌, ◌^◌, ◌<◌, List, get_or, sym, ap, subst, arith}
use Rattle.envelope.specs.Views.{Whole}
use Rattle.envelope_reading.proofs.Laws.{all_checked}
use Rattle.writing.specs.Trips.{Bytes}
use Rattle.deeds.specs.Ranges.{InRange}

four_bytes : (a b c d : ℕ) → a < 256 → b < 256 → c < 256 → d < 256 → a + b * 256 + c * 65536 + d * 16777216 < 2 ^ 32
four_bytes a b c d p q r s = omega arith

pub bytes_in_range : (rec : List ℕ) → Bytes rec → InRange rec
bytes_in_range rec b w e =
    subst (λ n. n < 2 ^ 32) (sym (ap (λ (x : Whole). x.fields.todt) (all_checked rec w e).is))
    (four_bytes (get_or rec 4 0) (get_or rec 5 0) (get_or rec 6 0) (get_or rec 7 0) (b 4) (b 5) (b 6) (b 7))
