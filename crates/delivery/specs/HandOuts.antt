-- Handing out: what is told, and what it leaves.
use Rattle.std.specs.Prelude.{◌≡◌, ℕ, ◌+◌, ◌≤◌, cond, List, Some, None, Ok, Err, Option, Result, ◌==◌}
use Rattle.standing.specs.Standings.{standing_at, with_standing, out_under}
use Rattle.searches.specs.Earliest.{earliest, Wants, Due}
use Rattle.searches.specs.declared.search.Found.{Found}
use Rattle.standing.specs.declared.standing.Standing.{Standing}
use Rattle.standing.specs.declared.standing.Standing.TheVariants.{Free, Waiting, Out, Inbox, Notice}
use Rattle.relay.specs.States.{State, timed}
use Rattle.delivery.specs.declared.fault.HandOutFault.{HandOutFault}
use Rattle.delivery.specs.declared.fault.HandOutFault.TheVariants.{TriesUsed}
use Rattle.delivery.specs.declared.handing_out.HandOut.{HandOut}

-- the neighbour that a waiting envelope is for; nothing else is handed out
abbrev pub hop_of : Standing → ℕ
hop_of Free = 0
hop_of (Waiting hop due failed about) = hop
hop_of (Out hop number since failed about) = 0
hop_of (Inbox entered about) = 0
hop_of (Notice entered about) = 0

abbrev pub hand_out_of : State → ℕ → HandOut
hand_out_of s place = record { place = place; number = s.given + 1; neighbour = hop_of (standing_at s.standings place) }

-- the place is out under the next try number
abbrev pub sent_out : State → ℕ → State
sent_out s place = record {
  time = s.time;
  given = s.given + 1;
  address = s.address;
  standings = with_standing s.standings place (out_under (s.given + 1) s.time (standing_at s.standings place));
  places = s.places;
}

-- what is due goes out, unless the last try number has been given
abbrev pub told_of : State → Option Found → Result (Option HandOut) HandOutFault
told_of s None = Ok None
told_of s (Some found) = cond (s.given == 4294967295) (Err TriesUsed) (Ok (Some (hand_out_of s found.place)))

abbrev pub left_of : State → Option Found → State
left_of s None = s
left_of s (Some found) = cond (s.given == 4294967295) s (sent_out s found.place)

-- the live waiting envelope that is due first at the relay's time
abbrev pub next_due : State → Option Found
next_due s = earliest (Due s.time) 0 s.standings

abbrev pub hand_out_answer : State → ℕ → Result (Option HandOut) HandOutFault
hand_out_answer s clock = told_of (timed s clock) (next_due (timed s clock))

abbrev pub hand_out_state : State → ℕ → State
hand_out_state s clock = left_of (timed s clock) (next_due (timed s clock))

-- what is handed out is live and due, and nothing else is due sooner or as soon at a lower place; none says that nothing is
-- due; a refusal, that something is
abbrev pub Fair : ℕ → List Standing → Result (Option HandOut) HandOutFault → Type 0
Fair t ss (Ok None) = (k due : ℕ) → Wants (Due t) ss k due → ⊥
Fair t ss (Ok (Some h)) =
    (due : ℕ) × Wants (Due t) ss h.place due × ((k other : ℕ) → Wants (Due t) ss k other → (due ≤ other) × (due ≡ other → h.place ≤ k))
Fair t ss (Err fault) = (k : ℕ) × (due : ℕ) × Wants (Due t) ss k due
