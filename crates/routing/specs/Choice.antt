-- The best row of a table that fits, and the way that it gives.
use Rattle.std.specs.Prelude.{ℕ, ◌+◌, Bool, true, false, cond, List, [], ◌∷◌, Some, None, Ok, Err, Option, Result, nat_le, slice_index_or}
use Rattle.text.specs.Faults.{checked_address, checked_dataflow}
use Rattle.text.specs.declared.fault.TextFault.{TextFault}
use Rattle.routing.specs.declared.row.Way.{Way}
use Rattle.routing.specs.declared.row.Way.TheVariants.{Local}
use Rattle.routing.specs.declared.row.RouteRow.{RouteRow}
use Rattle.routing.specs.Rows.{fits, rank_of}

-- a row that fits, by its place in the table
pub record Candidate : Type 0 where
  pub place : ℕ
  pub rank : ℕ

-- the rank of a row that fits
abbrev pub rank_if_fits : List ℕ → List ℕ → RouteRow → Option ℕ
rank_if_fits target flow row = cond (fits target flow row) (Some (rank_of row)) None

-- a rank is no lower than what was found
abbrev pub no_lower : ℕ → Option Candidate → Bool
no_lower k None = true
no_lower k (Some below) = nat_le below.rank k

-- the row at place i, unless it does not fit or what was found below it ranks higher
abbrev pub preferred : ℕ → Option ℕ → Option Candidate → Option Candidate
preferred i None below = below
preferred i (Some k) below = cond (no_lower k below) (Some (record { place = i; rank = k })) below

-- of the rows, numbered from i, the uppermost of those that fit and rank highest
abbrev pub best_from : List ℕ → List ℕ → ℕ → List RouteRow → Option Candidate
best_from target flow i [] = None
best_from target flow i (row ∷ rows) = preferred i (rank_if_fits target flow row) (best_from target flow (i + 1) rows)

abbrev pub place_of : Option Candidate → Option ℕ
place_of None = None
place_of (Some found) = Some found.place

abbrev pub best_row : List ℕ → List ℕ → List RouteRow → Option ℕ
best_row target flow rows = place_of (best_from target flow 0 rows)

-- the better of two rows that fit: the upper, unless the lower ranks higher
abbrev pub better_of : RouteRow → RouteRow → RouteRow
better_of upper lower = cond (nat_le (rank_of lower) (rank_of upper)) upper lower

-- a row that says nothing, which stands for a place past the table's end
abbrev pub no_row : RouteRow
no_row = record {
  has_address = false;
  address = [];
  address_len = 0;
  has_dataflow = false;
  dataflow = [];
  dataflow_len = 0;
  way = Local;
}

abbrev pub way_at : List RouteRow → Option ℕ → Option Way
way_at rows None = None
way_at rows (Some k) = Some (slice_index_or rows k no_row).way

-- what a check refuses by, else what comes after it
abbrev pub and_then : {A : Type 0} → Result (Unit {0}) TextFault → Result A TextFault → Result A TextFault
and_then (Ok passed) next = next
and_then (Err fault) next = Err fault

-- the way of the best row that fits; refused where the target is no address, then where the dataflow is none
abbrev pub chosen_way : List RouteRow → List ℕ → List ℕ → Result (Option Way) TextFault
chosen_way rows target flow = and_then (checked_address target) (and_then (checked_dataflow flow) (Ok (way_at rows (best_row target flow rows))))
