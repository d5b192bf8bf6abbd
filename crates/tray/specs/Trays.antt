-- What a tray holds, and what a new one holds.
use Rattle.std.specs.Prelude.{ℕ, List, [], replicate}
use Rattle.tray.specs.declared.Tray.{Tray}
use Rattle.tray.specs.Slots.{slots_held}

abbrev pub tray_held : Tray → List (List ℕ)
tray_held t = slots_held t.slots

abbrev pub empty_tray : List (List ℕ)
empty_tray = replicate 16 []
