-- What every spool refuses: a place that is not there, bytes that no place takes, a buffer that is too short.
use Rattle.std.specs.Prelude.{ℕ, cond, List, length, Ok, Err, Result, nat_le, nat_lt}
use Rattle.spool.specs.declared.fault.SpoolFault.{SpoolFault}
use Rattle.spool.specs.declared.fault.SpoolFault.TheVariants.{NoPlace, Unstorable, ShortBuffer}
use Rattle.spool.specs.Meaning.{storable}

-- of place p among n
abbrev pub place_answer : ℕ → ℕ → Result (Unit {0}) SpoolFault
place_answer p n = cond (nat_lt p n) (Ok tt) (Err NoPlace)

abbrev pub bytes_answer : List ℕ → Result (Unit {0}) SpoolFault
bytes_answer bs = cond (storable (length bs)) (Ok tt) (Err Unstorable)

-- of n bytes that are to go to the front of the buffer
abbrev pub room_answer : ℕ → List ℕ → Result (Unit {0}) SpoolFault
room_answer n buf = cond (nat_le n (length buf)) (Ok tt) (Err ShortBuffer)
