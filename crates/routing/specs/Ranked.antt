-- A row that fits, beside its rank.
use Rattle.std.specs.Prelude.{ℕ, cond, List, Some, None, Option, nat_le}
use Rattle.routing.specs.declared.row.RouteRow.{RouteRow}
use Rattle.routing.specs.declared.choice.Ranked.{Ranked}
use Rattle.routing.specs.Rows.{fits, rank_of}

abbrev pub seen : Ranked → ℕ × RouteRow
seen r = (r.rank, r.row.now)

abbrev pub with_rank : RouteRow → ℕ × RouteRow
with_rank row = (rank_of row, row)

-- the upper of two, unless the lower ranks higher
abbrev pub better_ranked : ℕ × RouteRow → ℕ × RouteRow → ℕ × RouteRow
better_ranked upper lower = cond (nat_le lower.0 upper.0) upper lower

abbrev pub best_with : Option (ℕ × RouteRow) → ℕ × RouteRow → ℕ × RouteRow
best_with None lower = lower
best_with (Some upper) lower = better_ranked upper lower

-- what was found above a row, and after it
abbrev pub better_after : List ℕ → List ℕ → Option (ℕ × RouteRow) → RouteRow → Option (ℕ × RouteRow)
better_after target flow found row = cond (fits target flow row) (Some (best_with found (with_rank row))) found
