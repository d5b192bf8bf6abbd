-- Reading the record of a try: what is told, and what the buffer holds afterwards.
use Rattle.std.specs.Prelude.{ℕ, Bool, false, cond, List, Ok, Err, Result, ◌==◌}
use Rattle.spool.specs.Meaning.{copy_answer, copied}
use Rattle.spool.specs.declared.fault.SpoolFault.{SpoolFault}
use Rattle.standing.specs.Standings.{standing_at}
use Rattle.standing.specs.declared.standing.Standing.{Standing}
use Rattle.standing.specs.declared.standing.Standing.TheVariants.{Free, Waiting, Out, Inbox, Notice}
use Rattle.relay.specs.States.{State}
use Rattle.delivery.specs.declared.fault.ReadFault.{ReadFault}
use Rattle.delivery.specs.declared.fault.ReadFault.TheVariants.{NotOut, Spool}

abbrev pub is_out_under : ℕ → Standing → Bool
is_out_under number Free = false
is_out_under number (Waiting hop due failed about) = false
is_out_under number (Out hop out since failed about) = out == number
is_out_under number (Inbox entered about) = false
is_out_under number (Notice entered about) = false

abbrev pub from_spool : Result ℕ SpoolFault → Result ℕ ReadFault
from_spool (Ok n) = Ok n
from_spool (Err fault) = Err (Spool fault)

-- the place is out under that number, then the buffer is long enough
abbrev pub read_answer : State → ℕ → ℕ → List ℕ → Result ℕ ReadFault
read_answer s place number buf = cond (is_out_under number (standing_at s.standings place)) (from_spool (copy_answer place buf s.places)) (Err NotOut)

abbrev pub read_buffer : State → ℕ → ℕ → List ℕ → List ℕ
read_buffer s place number buf = cond (is_out_under number (standing_at s.standings place)) (copied place buf s.places) buf
