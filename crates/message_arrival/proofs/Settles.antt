-- A message that is taken in lies in the place told, and any other moves nothing.
use Rattle.std.proofs.Common.{◌≡◌, ℕ, true, List, length}
use Rattle.envelope.specs.Views.{Fields, whole}
use Rattle.ledger.specs.Searches.{found, row_at}
use Rattle.message_rows.specs.Messages.{messages, message_key_of}
use Rattle.message_rows.specs.declared.message.MessageRow.{MessageRow}
use Rattle.routing.specs.declared.row.RouteRow.{RouteRow}
use Rattle.spool.specs.Meaning.{storable}
use Rattle.relay.specs.States.{State}
use Rattle.relay.specs.Abouts.{about_of}
use Rattle.arrival_checks.specs.Keys.{or_no_row}
use Rattle.arrival_checks.specs.Repeats.{kept_of}
use Rattle.arrival_checks.specs.Ways.{message_ways}
use Rattle.intake.specs.Promises.{Settled}
use Rattle.intake.proofs.Settled.{go_on_lem, unless_found_lem, taken_in}
use Rattle.message_rows.specs.Messages.{message_row_of}
use Rattle.message_arrival.specs.Messages.{message_taken}

pub message_settled : (s : State) (neighbour : ℕ) (f : Fields) (bytes : List ℕ) (routes : List RouteRow) (rows : List MessageRow) → storable (length bytes) ≡ true → Settled bytes s rows (message_taken s neighbour f bytes routes rows)
unfolding message_taken
message_settled s neighbour f bytes routes rows takes =
    go_on_lem bytes s rows (or_no_row (message_key_of f.fr.bytes f.on.bytes)) _ (λ key.
    unless_found_lem bytes s rows (row_at (found messages s.time key rows) rows) (λ row. row.kept) f _ (
    go_on_lem bytes s rows (message_ways routes neighbour f) _ (λ ways.
    taken_in bytes s takes messages (message_row_of key (kept_of f ways.on)) ways.on (about_of (whole 1 0 f) ways.back) rows)))
