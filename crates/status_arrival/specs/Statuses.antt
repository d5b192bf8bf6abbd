-- What comes of a status that is live.
use Rattle.std.specs.Prelude.{ℕ, Bool, cond, ◌&&◌, List, Ok, ◌==◌, nat_le}
use Rattle.envelope.specs.Views.{Fields, whole}
use Rattle.status_rows.specs.Statuses.{statuses, status_key_of, status_row_of}
use Rattle.status_rows.specs.declared.status.StatusRow.{StatusRow}
use Rattle.routing.specs.declared.row.RouteRow.{RouteRow}
use Rattle.relay.specs.States.{State}
use Rattle.arrival_checks.specs.declared.answer.Arrived.TheVariants.{Unwanted}
use Rattle.arrival_checks.specs.Keys.{or_no_row}
use Rattle.arrival_checks.specs.Ways.{status_ways}
use Rattle.intake.specs.Steps.{Taken, taken, go_on}
use Rattle.intake.specs.TakingIn.{taken_by}

-- its key, the row that it finds, its ways, and then it is taken in
abbrev pub wanted_taken : State → ℕ → ℕ → Fields → List ℕ → List RouteRow → List StatusRow → Taken StatusRow
wanted_taken s neighbour code f bytes routes rows =
    go_on s rows (or_no_row (status_key_of f.fr.bytes f.ad.bytes f.on.bytes code)) (λ key.
    taken_by statuses status_row_of (λ row. row.kept) s key (whole 2 code f) (status_ways routes neighbour f) bytes rows)

-- a receipt, code 100 to 199, that nobody asked for
abbrev pub is_unwanted : ℕ → Fields → Bool
is_unwanted code f = (nat_le 100 code && nat_le code 199) && f.ar == 0

unfoldable pub status_taken : State → ℕ → ℕ → Fields → List ℕ → List RouteRow → List StatusRow → Taken StatusRow
status_taken s neighbour code f bytes routes rows =
    cond (is_unwanted code f) (taken (Ok Unwanted) s rows) (wanted_taken s neighbour code f bytes routes rows)
