-- What writing answers, and what it leaves in the buffer.
use Rattle.std.specs.Prelude.{ℕ, cond, List, [], length, is_ok, Ok, Err, Result, nat_le}
use Rattle.text.specs.Said.{Said, says}
use Rattle.envelope.specs.Results.{viewed, and_then}
use Rattle.envelope.specs.Decoding.{checked}
use Rattle.envelope_fields.specs.Plain.{Plain}
use Rattle.writing.specs.Buffers.{filled}
use Rattle.writing.specs.Encoding.{size, encode}
use Rattle.envelope_fields.specs.Forms.{rows}
use Rattle.writing.specs.Refusals.{write_refusal}
use Rattle.writing.specs.declared.fault.WriteFault.{WriteFault}

-- a record of n bytes, in a buffer of `room`
abbrev pub room_answer : ℕ → ℕ → Result ℕ Said
room_answer n room = cond (nat_le n 2048) (cond (nat_le n room) (Ok n) (Err (says 502 []))) (Err (says 401 []))

-- the fields, then the length, then the buffer
unfoldable pub write_answer : Plain → ℕ → Result ℕ Said
write_answer d room = and_then (checked (rows d)) (λ _. room_answer (size d) room)

-- the record at the front, else as it was
unfoldable pub buffer_after : Plain → List ℕ → List ℕ
buffer_after d buf = cond (is_ok (write_answer d (length buf))) (filled (encode d) buf) buf

abbrev pub told_write : Result ℕ WriteFault → Result ℕ Said
told_write r = viewed (λ n. n) write_refusal r
