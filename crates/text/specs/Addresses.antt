-- The text of an address, and what filling one leaves.
use Rattle.std.specs.Prelude.{ℕ, cond, List, length, take}
use Rattle.text.specs.Forms.{is_address}
use Rattle.text.specs.Padding.{padded}
use Rattle.text.specs.declared.address.Address.{Address}

abbrev pub address_text : Address → List ℕ
address_text a = take a.len a.bytes

-- what an address is made of, without its invariant
pub record Held : Type 0 where
  pub bytes : List ℕ
  pub len : ℕ

abbrev pub held : Address → Held
held a = record { bytes = a.bytes; len = a.len }

abbrev pub holding : List ℕ → Held
holding bs = record { bytes = padded 64 bs; len = length bs }

-- filled whole with an address, else as it was
abbrev pub fill_after : List ℕ → Held → Held
fill_after bs before = cond (is_address bs) (holding bs) before
