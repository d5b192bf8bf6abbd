-- What comes of a message that is live.
use Rattle.std.specs.Prelude.{List, ℕ}
use Rattle.envelope.specs.Views.{Fields, whole}
use Rattle.message_rows.specs.Messages.{messages, message_key_of, message_row_of}
use Rattle.message_rows.specs.declared.message.MessageRow.{MessageRow}
use Rattle.routing.specs.declared.row.RouteRow.{RouteRow}
use Rattle.relay.specs.States.{State}
use Rattle.arrival_checks.specs.Keys.{or_no_row}
use Rattle.arrival_checks.specs.Ways.{message_ways}
use Rattle.intake.specs.Steps.{Taken, go_on}
use Rattle.intake.specs.TakingIn.{taken_by}

-- its key, the row that it finds, its ways, and then it is taken in
unfoldable pub message_taken : State → ℕ → Fields → List ℕ → List RouteRow → List MessageRow → Taken MessageRow
message_taken s neighbour f bytes routes rows =
    go_on s rows (or_no_row (message_key_of f.fr.bytes f.on.bytes)) (λ key.
    taken_by messages message_row_of (λ row. row.kept) s key (whole 1 0 f) (message_ways routes neighbour f) bytes rows)
