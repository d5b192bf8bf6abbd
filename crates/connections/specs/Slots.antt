-- The admitted connections, by number.
use Rattle.std.specs.Prelude.{ℕ, Bool, true, false, cond, List, Some, None, Option, nat_lt, slice_index_or, slice_set}
use Rattle.std.specs.Borrow.{Bor}
use Rattle.connection.specs.declared.admitted.Admitted.{Admitted}
use Rattle.connections.specs.declared.connections.Slot.{Slot}
use Rattle.connections.specs.declared.connections.Slot.TheVariants as slot

abbrev pub admitted_in : Slot → Option Admitted
admitted_in slot.Closed = None
admitted_in (slot.Admitted a) = Some a

abbrev pub is_closed : Slot → Bool
is_closed slot.Closed = true
is_closed (slot.Admitted a) = false

-- no connection is admitted under a number past the last
abbrev pub admitted_at : List Slot → ℕ → Option Admitted
admitted_at slots n = cond (nat_lt n 64) (admitted_in (slice_index_or slots n slot.Closed)) None

abbrev pub is_free : List Slot → ℕ → Bool
is_free slots n = cond (nat_lt n 64) (is_closed (slice_index_or slots n slot.Closed)) false

abbrev pub with_slot : List Slot → ℕ → Slot → List Slot
with_slot slots n s = cond (nat_lt n 64) (slice_set slots n s) slots

abbrev pub lent_admitted : Option (Bor Admitted) → Option Admitted
lent_admitted (Some a) = Some a.now
lent_admitted None = None
