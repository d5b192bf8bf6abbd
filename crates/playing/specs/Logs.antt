-- The log of a run, as the account reads it.
use Rattle.std.specs.Prelude.{ℕ, min, take}
use Rattle.player.specs.declared.call.Call.{Call}
use Rattle.player.specs.declared.call.Call.TheVariants as call
use Rattle.player.specs.Answers.{answer_of}
use Rattle.player.specs.Runs.{Event, event}
use Rattle.playing.specs.declared.entry.Entry.{Entry}

-- the length of the buffer that a call brings
abbrev pub room_of : Call → ℕ
room_of (call.Admit clock number fingerprint clients) = 0
room_of (call.Arrive clock number rec routes) = 0
room_of (call.Close number) = 0
room_of (call.HandOut clock) = 0
room_of (call.Read clock place number room) = room
room_of (call.Answer clock place number outcome) = 0
room_of (call.Sweep clock) = 0
room_of (call.Collect clock room) = room
room_of (call.Notice clock room) = room

-- how much of its page a call uses
abbrev pub front_of : Call → ℕ
front_of c = min (room_of c) 2048

-- an entry as an event: the buffer is the front of the page
abbrev pub event_of : Entry → Event
event_of e = event e.call (answer_of e.told) (take (front_of e.call) e.page)

abbrev pub call_of : Entry → Call
call_of e = e.call
