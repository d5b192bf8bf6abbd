use Rattle.std.proofs.Common.{[], length, ap, arith}
use Rattle.std.proofs.lemmas.List.{length-append, length-replicate, length-drop}
use Rattle.spool.proofs.Fills.{fill_more, fill_all}
use Rattle.spool.proofs.uses.clear_all.Goals as goal

pub loop-place-preserved : goal.loop-place-preserved
loop-place-preserved g c = fill_more (g.S.Spool.held c.args.spool.now) [] _ _ _ (omega arith) c.loop-place.invariant c.empty.ensures
