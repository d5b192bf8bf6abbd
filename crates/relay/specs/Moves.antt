-- An envelope comes into a place, and leaves it.
use Rattle.std.specs.Prelude.{List, ℕ}
use Rattle.routing.specs.declared.row.Way.{Way}
use Rattle.routing.specs.declared.row.Way.TheVariants.{Local, Neighbour}
use Rattle.spool.specs.Meaning.{stored, cleared}
use Rattle.standing.specs.Standings.{with_standing}
use Rattle.standing.specs.declared.standing.About.{About}
use Rattle.standing.specs.declared.standing.Standing.{Standing}
use Rattle.standing.specs.declared.standing.Standing.TheVariants.{Free, Waiting, Inbox}
use Rattle.relay.specs.States.{State, holding}

-- in the inbox where the way is the local office, else waiting for the neighbour, due now, with no failed try
abbrev pub standing_on : Way → ℕ → About → Standing
standing_on Local time about = Inbox time about
standing_on (Neighbour hop) time about = Waiting hop time 0 about

abbrev pub settled : State → ℕ → Way → About → List ℕ → State
settled s place way about bytes = holding s (with_standing s.standings place (standing_on way s.time about)) (stored place bytes s.places)

-- the place is empty and free
abbrev pub discharged : State → ℕ → State
discharged s place = holding s (with_standing s.standings place Free) (cleared place s.places)
