-- A status that is taken in lies in the place told, and any other moves nothing.
use Rattle.std.proofs.Common.{◌≡◌, ℕ, Bool, true, false, cond, List, length, Ok, refl}
use Rattle.envelope.specs.Views.{Fields, whole}
use Rattle.ledger.specs.Searches.{found, row_at}
use Rattle.status_rows.specs.Statuses.{statuses, status_key_of}
use Rattle.status_rows.specs.declared.status.StatusRow.{StatusRow}
use Rattle.routing.specs.declared.row.RouteRow.{RouteRow}
use Rattle.spool.specs.Meaning.{storable}
use Rattle.relay.specs.States.{State}
use Rattle.relay.specs.Abouts.{about_of}
use Rattle.arrival_checks.specs.Keys.{or_no_row}
use Rattle.arrival_checks.specs.Repeats.{kept_of}
use Rattle.arrival_checks.specs.Ways.{status_ways}
use Rattle.arrival_checks.specs.declared.answer.Arrived.TheVariants.{Unwanted}
use Rattle.intake.specs.Steps.{Taken, taken}
use Rattle.intake.specs.Promises.{Settled}
use Rattle.intake.proofs.Settled.{go_on_lem, unless_found_lem, taken_in}
use Rattle.status_rows.specs.Statuses.{status_row_of}
use Rattle.status_arrival.specs.Statuses.{is_unwanted, wanted_taken, status_taken}

unless_unwanted : (b : Bool) (bytes : List ℕ) (s : State) (rows : List StatusRow) (next : Taken StatusRow) → Settled bytes s rows next → Settled bytes s rows (cond b (taken (Ok Unwanted) s rows) next)
unless_unwanted true bytes s rows next h = (refl, refl)
unless_unwanted false bytes s rows next h = h

pub status_settled : (s : State) (neighbour code : ℕ) (f : Fields) (bytes : List ℕ) (routes : List RouteRow) (rows : List StatusRow) → storable (length bytes) ≡ true → Settled bytes s rows (status_taken s neighbour code f bytes routes rows)
unfolding status_taken
status_settled s neighbour code f bytes routes rows takes =
    unless_unwanted (is_unwanted code f) bytes s rows (wanted_taken s neighbour code f bytes routes rows) (
    go_on_lem bytes s rows (or_no_row (status_key_of f.fr.bytes f.ad.bytes f.on.bytes code)) _ (λ key.
    unless_found_lem bytes s rows (row_at (found statuses s.time key rows) rows) (λ row. row.kept) f _ (
    go_on_lem bytes s rows (status_ways routes neighbour f) _ (λ ways.
    taken_in bytes s takes statuses (status_row_of key (kept_of f ways.on)) ways.on (about_of (whole 2 code f) ways.back) rows))))
