-- The ways of an envelope: on to its recipient, and back to where it came from.
use Rattle.std.specs.Prelude.{ℕ, Bool, false, cond, List, Some, None, Ok, Err, Option, Result, ◌==◌}
use Rattle.text.specs.declared.fault.TextFault.{TextFault}
use Rattle.envelope.specs.Views.{Fields}
use Rattle.routing.specs.Choice.{chosen_way}
use Rattle.routing.specs.declared.row.Way.{Way}
use Rattle.routing.specs.declared.row.Way.TheVariants.{Local, Neighbour}
use Rattle.routing.specs.declared.row.RouteRow.{RouteRow}
use Rattle.arrival_checks.specs.declared.ways.Ways.{Ways}
use Rattle.arrival_checks.specs.declared.fault.ArrivalFault.{ArrivalFault}
use Rattle.arrival_checks.specs.declared.fault.ArrivalFault.TheVariants.{NoWayOn, NoWayBack, SentBack}

-- a text that the choice refuses has no way; those of an envelope that was read are not refused
abbrev pub or_none : Result (Option Way) TextFault → Option Way
or_none (Ok way) = way
or_none (Err fault) = None

abbrev pub way_to : List RouteRow → List ℕ → List ℕ → Option Way
way_to routes target flow = or_none (chosen_way routes target flow)

-- to the neighbour who brought the envelope
abbrev pub is_sent_back : ℕ → Way → Bool
is_sent_back neighbour Local = false
is_sent_back neighbour (Neighbour n) = n == neighbour

abbrev pub unless_sent_back : ℕ → Way → Way → Result Ways ArrivalFault
unless_sent_back neighbour on back = cond (is_sent_back neighbour on) (Err SentBack) (Ok (record { on = on; back = back }))

-- a message has both ways
abbrev pub both_ways : ℕ → Option Way → Option Way → Result Ways ArrivalFault
both_ways neighbour None back = Err NoWayOn
both_ways neighbour (Some on) None = Err NoWayBack
both_ways neighbour (Some on) (Some back) = unless_sent_back neighbour on back

abbrev pub message_ways : List RouteRow → ℕ → Fields → Result Ways ArrivalFault
message_ways routes neighbour f = both_ways neighbour (way_to routes f.ad.bytes f.df.bytes) (way_to routes f.fr.bytes f.df.bytes)

-- nothing goes back for a status: its way back is the local office, and means nothing
abbrev pub status_ways : List RouteRow → ℕ → Fields → Result Ways ArrivalFault
status_ways routes neighbour f = both_ways neighbour (way_to routes f.ad.bytes f.df.bytes) (Some Local)
