-- Unsigned little-endian integers in a list of bytes.
use Rattle.std.specs.Prelude.{ℕ, ◌+◌, ◌*◌, List, slice_index}

abbrev pub u16_at : List ℕ → ℕ → ℕ
u16_at r at = slice_index r at + slice_index r (at + 1) * 256

abbrev pub u32_at : List ℕ → ℕ → ℕ
u32_at r at = slice_index r at + slice_index r (at + 1) * 256 + slice_index r (at + 2) * 65536 + slice_index r (at + 3) * 16777216
