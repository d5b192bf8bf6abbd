-- What slots hold, by their number.
use Rattle.std.proofs.Common.{◌≡◌, ℕ, ◌<◌, ◌≤◌, min, List, [], ◌++◌, map, length, get_or, take, set, ap, ◌∙◌, arith}
use Rattle.std.proofs.Math.Seq.{take-set-lt}
use Rattle.std.proofs.lemmas.List.{get_or-map, get_or-take, length-take, length-map, map-set, take_at}
use Rattle.spool.specs.Meaning.{at}
use Rattle.tray.specs.declared.slot.Slot.{Slot}
use Rattle.tray.specs.Slots.{slot_held, slots_held}

pub slots_count : (ss : List Slot) → length ss ≡ 16 → length (slots_held ss) ≡ 16
unfolding slots_held
slots_count ss h = omega (arith, length-take 16 (map slot_held ss), length-map ss slot_held)

pub slots_at : (ss : List Slot) (i : ℕ) (d : Slot) → length ss ≡ 16 → i < 16 → at i (slots_held ss) ≡ slot_held (get_or ss i d)
unfolding slots_held
slots_at ss i d l h = get_or-take 16 (map slot_held ss) i [] h ∙ get_or-map slot_held ss i d [] (omega arith)

-- a slot that holds bs written over
pub slots_set : (ss : List Slot) (i : ℕ) (s : Slot) (bs : List ℕ) → i < 16 → slot_held s ≡ bs → slots_held (set ss i s) ≡ set (slots_held ss) i bs
unfolding slots_held
slots_set ss i s bs h e =
    ap (take 16) (map-set slot_held ss i s)
    ∙ take-set-lt 16 (map slot_held ss) i (slot_held s) h
    ∙ ap (set (take 16 (map slot_held ss)) i) e

-- bytes in front of others, with their number as the length
pub put_held : (s : Slot) (bs rest : List ℕ) → length bs ≤ 2048 → s.len ≡ length bs → s.bytes ≡ bs ++ rest → slot_held s ≡ bs
put_held s bs rest h l e = ap (take (min 2048 s.len)) e ∙ take_at bs rest (min 2048 s.len) (omega arith)
