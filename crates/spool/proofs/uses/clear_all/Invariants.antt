-- The places passed so far are empty, and the others as they were.
use Rattle.std.proofs.Common.{◌≡◌, [], ◌++◌, drop, replicate}
use Rattle.spool.proofs.uses.clear_all.Given as goal

abbrev pub invariant-loop-place : goal.invariant-loop-place
invariant-loop-place g l =
    g.S.Spool.held l.spool ≡ replicate l.place [] ++ drop l.place (g.S.Spool.held l.initial.spool)
