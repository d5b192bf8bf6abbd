-- What writing a record again answers, and what it leaves in the buffer.
use Rattle.std.specs.Prelude.{◌≡◌, ℕ, ◌≤◌, List, length, Ok, Err, Result}
use Rattle.text.specs.Said.{Said}
use Rattle.envelope.specs.Views.{Whole}
use Rattle.envelope.specs.Results.{viewed, and_then}
use Rattle.envelope.specs.Decoding.{decode}
use Rattle.envelope_fields.specs.Plain.{plain_of}
use Rattle.writing.specs.Buffers.{filled}
use Rattle.writing.specs.Answers.{write_answer, buffer_after}
use Rattle.rewriting.specs.Refusals.{rewrite_refusal}
use Rattle.rewriting.specs.declared.fault.RewriteFault.{RewriteFault}

abbrev pub rewrite_answer : List ℕ → ℕ → Result ℕ Said
rewrite_answer rec room = and_then (decode rec) (λ w. write_answer (plain_of w) room)

abbrev pub after_reading : Result Whole Said → List ℕ → List ℕ
after_reading (Ok w) buf = buffer_after (plain_of w) buf
after_reading (Err e) buf = buf

abbrev pub rewrite_after : List ℕ → List ℕ → List ℕ
rewrite_after rec buf = after_reading (decode rec) buf

abbrev pub told_rewrite : Result ℕ RewriteFault → Result ℕ Said
told_rewrite r = viewed (λ n. n) rewrite_refusal r

-- a record that reads well is written whole, with its own bytes, where there is room for it
pub record Rewritten (rec before : List ℕ) (answer : Result ℕ RewriteFault) (after : List ℕ) : Type 0 where
  pub whole : (w : Whole) → ◌≡◌ {A = Result Whole Said} (decode rec) (Ok w) → length rec ≤ length before → answer ≡ Ok (length rec)
  pub own : (w : Whole) → ◌≡◌ {A = Result Whole Said} (decode rec) (Ok w) → length rec ≤ length before → after ≡ filled rec before
  pub left : (f : RewriteFault) → answer ≡ Err f → after ≡ before
