use Rattle.std.proofs.Common.{◌≡◌, drop}
use Rattle.searches.specs.Searches.{first_duty}
use Rattle.searches.proofs.table.lowest_duty.Given as goal

abbrev pub invariant-loop-place : goal.invariant-loop-place
invariant-loop-place l = first_duty l.time l.place (drop l.place l.standings) ≡ first_duty l.time 0 l.standings
