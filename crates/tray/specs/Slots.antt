-- What sixteen slots hold, whatever stands in them.
use Rattle.std.specs.Prelude.{ℕ, ◌≤◌, min, List, map, length, take}
use Rattle.std.proofs.Common.{arith}
use Rattle.std.proofs.lemmas.List.{length-take}
use Rattle.spool.specs.Short.{Short, short_map, short_take}
use Rattle.tray.specs.declared.slot.Slot.{Slot}

abbrev pub slot_held : Slot → List ℕ
slot_held s = take (min 2048 s.len) s.bytes

-- one place for each of the first sixteen
unfoldable pub slots_held : List Slot → List (List ℕ)
slots_held ss = take 16 (map slot_held ss)

pub few_slots : (ss : List Slot) → length (slots_held ss) ≤ 256
unfolding slots_held
few_slots ss = omega (arith, length-take 16 (map slot_held ss))

pub short_slots : (ss : List Slot) → Short (slots_held ss)
unfolding slots_held
short_slots ss =
    short_take 16 (map slot_held ss)
    (short_map slot_held (λ s. omega (arith, length-take (min 2048 s.len) s.bytes)) ss)
