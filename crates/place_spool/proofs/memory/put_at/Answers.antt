use Rattle.std.proofs.Common.{◌≡◌, ◌+◌, ◌-◌, ◌*◌, refl, ap, ◌∙◌, arith, rules}
use borrow.Rule.Slice.PartMut.{put_mid}
use Rattle.place_spool.specs.Memory.{memory_held, tail, framed}
use Rattle.place_spool.proofs.Places.{cell_within, put_framed, framed_held, framed_tail}
use Rattle.place_spool.proofs.memory.put_at.Goals as goal

pub overflow_mul-start : goal.overflow_mul-start
overflow_mul-start c = let w = cell_within c.args.memory.now c.args.place c.requires.0 in search rules

pub overflow_add-start : goal.overflow_add-start
overflow_add-start c = let w = cell_within c.args.memory.now c.args.place c.requires.0 in search rules

pub slice_bounds-put-end : goal.slice_bounds-put-end
slice_bounds-put-end c = let w = cell_within c.args.memory.now c.args.place c.requires.0 in search rules

pub returns : goal.returns
returns c =
    let m = c.args.memory.now in
    let bs = c.args.bytes.now in
    let a = 2050 * c.args.place in
    let k = (a + 2050) - a in
    let e : put_mid a k m c.put.new.cell ≡ framed c.args.place bs m
    = put_framed m bs c.put.new.cell c.args.place a k
    c.requires.0 c.requires.1 refl (omega arith) c.put.ensures in
    record {
      memory = e;
      held = ap memory_held e ∙ framed_held m bs c.args.place c.requires.0 c.requires.1;
      tail = ap tail e ∙ framed_tail m bs c.args.place c.requires.0 c.requires.1;
    }
