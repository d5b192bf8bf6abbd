-- The account of a run: what an observer books of each call and its answer, and what ties it to the relay.
use Rattle.std.specs.Prelude.{ℕ, List, [], fold}
use Rattle.account.specs.Accounts.{Account, empty, clocked, book}
use Rattle.account.specs.Deeds.{Deed}
use Rattle.account.specs.Deeds.Deed.{nothing}
use Rattle.account.specs.Faith.{Faithful}
use Rattle.deeds.specs.Told.{arrival_deed, hand_out_deed, answer_deed, sweep_deed, collect_deed, notice_deed}
use Rattle.deeds.specs.Ranges.{InRange, AllInRange}
use Rattle.player.specs.declared.call.Call.{Call}
use Rattle.player.specs.declared.call.Call.TheVariants as call
use Rattle.player.specs.Answers.{Answer}
use Rattle.player.specs.Answers.Answer.{no_call, of_admission, of_closing, of_arrival, of_hand_out, of_reading, of_answer, of_sweep, of_collection, of_notice}
use Rattle.player.specs.Steps.{World}

-- a call with what it brought and gave back: the bytes of a record that was given stand at the front of the buffer
pub record Event : Type 0 where
  pub call : Call
  pub told : Answer
  pub buffer : List ℕ

abbrev pub event : Call → Answer → List ℕ → Event
event c a buf = record { call = c; told = a; buffer = buf }

-- the clock reading that a call brings; closing a connection brings none
abbrev pub reading_of : Call → ℕ
reading_of (call.Admit clock number fingerprint clients) = clock
reading_of (call.Arrive clock number rec routes) = clock
reading_of (call.Close number) = 0
reading_of (call.HandOut clock) = clock
reading_of (call.Read clock place number room) = clock
reading_of (call.Answer clock place number outcome) = clock
reading_of (call.Sweep clock) = clock
reading_of (call.Collect clock room) = clock
reading_of (call.Notice clock room) = clock

-- the record that an arrival brings
abbrev pub record_of : Call → List ℕ
record_of (call.Admit clock number fingerprint clients) = []
record_of (call.Arrive clock number rec routes) = rec.now
record_of (call.Close number) = []
record_of (call.HandOut clock) = []
record_of (call.Read clock place number room) = []
record_of (call.Answer clock place number outcome) = []
record_of (call.Sweep clock) = []
record_of (call.Collect clock room) = []
record_of (call.Notice clock room) = []

-- the place that an answer names
abbrev pub place_of : Call → ℕ
place_of (call.Admit clock number fingerprint clients) = 0
place_of (call.Arrive clock number rec routes) = 0
place_of (call.Close number) = 0
place_of (call.HandOut clock) = 0
place_of (call.Read clock place number room) = place
place_of (call.Answer clock place number outcome) = place
place_of (call.Sweep clock) = 0
place_of (call.Collect clock room) = 0
place_of (call.Notice clock room) = 0

-- what the call did, as its answer tells it
abbrev pub deed_of : Call → Answer → List ℕ → Deed
deed_of c no_call buf = nothing
deed_of c (of_admission r) buf = nothing
deed_of c of_closing buf = nothing
deed_of c (of_arrival r) buf = arrival_deed (record_of c) r
deed_of c (of_hand_out r) buf = hand_out_deed r
deed_of c (of_reading r) buf = nothing
deed_of c (of_answer r) buf = answer_deed (place_of c) r
deed_of c (of_sweep r) buf = sweep_deed r
deed_of c (of_collection r) buf = collect_deed r buf
deed_of c (of_notice r) buf = notice_deed r

-- what was no call, and closing a connection, move nothing; every other call reads the clock first
abbrev pub enter : Account → Call → Answer → List ℕ → Account
enter a c no_call buf = a
enter a c of_closing buf = a
enter a c (of_admission r) buf = clocked a (reading_of c)
enter a c (of_arrival r) buf = book (clocked a (reading_of c)) (deed_of c (of_arrival r) buf)
enter a c (of_hand_out r) buf = book (clocked a (reading_of c)) (deed_of c (of_hand_out r) buf)
enter a c (of_reading r) buf = clocked a (reading_of c)
enter a c (of_answer r) buf = book (clocked a (reading_of c)) (deed_of c (of_answer r) buf)
enter a c (of_sweep r) buf = book (clocked a (reading_of c)) (deed_of c (of_sweep r) buf)
enter a c (of_collection r) buf = book (clocked a (reading_of c)) (deed_of c (of_collection r) buf)
enter a c (of_notice r) buf = book (clocked a (reading_of c)) (deed_of c (of_notice r) buf)

abbrev pub book_event : Account → Event → Account
book_event a e = enter a e.call e.told e.buffer

-- the account of a list of calls, the first call first
abbrev pub account : List Event → Account
account log = fold book_event empty log

-- the relay and its ledger of messages are as the account has it
pub record Agrees (a : Account) (w : World) : Type 0 where
  pub faithful : Faithful a w.state w.messages
  pub in_range : AllInRange w.state.places

-- the time in a record that arrives is of 32 bits, since the record is bytes
abbrev pub Brings : Call → Type 0
Brings c = InRange (record_of c)
