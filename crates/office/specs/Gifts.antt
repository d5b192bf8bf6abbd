-- Giving the oldest record of a sort: what is told, what the buffer holds, and what it leaves.
use Rattle.std.specs.Prelude.{ℕ, List, Some, None, Ok, Err, Option, Result}
use Rattle.envelope.specs.declared.parts.Kind.{Kind}
use Rattle.envelope.specs.declared.parts.Kind.TheVariants.{Message}
use Rattle.spool.specs.Meaning.{copy_answer, copied}
use Rattle.spool.specs.declared.fault.SpoolFault.{SpoolFault}
use Rattle.standing.specs.Standings.{standing_at}
use Rattle.searches.specs.Earliest.{earliest, Wanted}
use Rattle.searches.specs.declared.search.Found.{Found}
use Rattle.standing.specs.declared.standing.Standing.{Standing}
use Rattle.standing.specs.declared.standing.Standing.TheVariants.{Free, Waiting, Out, Inbox, Notice}
use Rattle.relay.specs.States.{State, timed}
use Rattle.relay.specs.Moves.{discharged}
use Rattle.office.specs.declared.oldest.Given.{Given}

-- the kind of the envelope at a place; nothing is given from a free one
abbrev pub kind_at : Standing → Kind
kind_at Free = Message
kind_at (Waiting hop due failed about) = about.kind
kind_at (Out hop number since failed about) = about.kind
kind_at (Inbox entered about) = about.kind
kind_at (Notice entered about) = about.kind

abbrev pub given_as : Kind → Result ℕ SpoolFault → Result (Option Given) SpoolFault
given_as kind (Ok n) = Ok (Some (record { kind = kind; length = n }))
given_as kind (Err fault) = Err fault

-- the place is freed once its record was copied
abbrev pub freed_if : State → ℕ → Result ℕ SpoolFault → State
freed_if s place (Ok n) = discharged s place
freed_if s place (Err fault) = s

abbrev pub taken_answer : State → Option Found → List ℕ → Result (Option Given) SpoolFault
taken_answer s (Some found) buf = given_as (kind_at (standing_at s.standings found.place)) (copy_answer found.place buf s.places)
taken_answer s None buf = Ok None

abbrev pub taken_buffer : State → Option Found → List ℕ → List ℕ
taken_buffer s (Some found) buf = copied found.place buf s.places
taken_buffer s None buf = buf

abbrev pub taken_state : State → Option Found → List ℕ → State
taken_state s (Some found) buf = freed_if s found.place (copy_answer found.place buf s.places)
taken_state s None buf = s

-- the oldest of the inbox or of the notices, by the time of entry and then by place
abbrev pub oldest : Wanted → State → Option Found
oldest wanted s = earliest wanted 0 s.standings

abbrev pub oldest_answer : Wanted → State → ℕ → List ℕ → Result (Option Given) SpoolFault
oldest_answer wanted s clock buf = taken_answer (timed s clock) (oldest wanted s) buf

abbrev pub oldest_buffer : Wanted → State → ℕ → List ℕ → List ℕ
oldest_buffer wanted s clock buf = taken_buffer (timed s clock) (oldest wanted s) buf

abbrev pub oldest_state : Wanted → State → ℕ → List ℕ → State
oldest_state wanted s clock buf = taken_state (timed s clock) (oldest wanted s) buf
