-- From the checks of fields to what writing answers.
use Rattle.std.proofs.Common.{◌≡◌, ℕ, ◌<◌, ◌≤◌, cond, leb, List, [], length, is_ok, None, Ok, Err, Result, sym, ap, ◌∙◌}
use Rattle.std.proofs.lemmas.Bool.{le-leb, lt-leb, leb-true}
use Rattle.text.specs.Said.{Said, says}
use Rattle.envelope.specs.Layout.{first_broken}
use Rattle.envelope.specs.Results.{and_then}
use Rattle.envelope.specs.Decoding.{checked}
use Rattle.envelope.proofs.Oks.{ok_cond, ok_part, ok_then, unless_ok}
use Rattle.envelope_fields.specs.Plain.{Plain}
use Rattle.writing.specs.Buffers.{filled}
use Rattle.writing.specs.Encoding.{size, encode}
use Rattle.envelope_fields.specs.Forms.{rows}
use Rattle.writing.specs.Answers.{room_answer, write_answer, buffer_after}

-- the buffer follows from the answer
pub by_answer : (d : Plain) (buf : List ℕ) (r : Result ℕ Said) → r ≡ write_answer d (length buf) → cond (is_ok r) (filled (encode d) buf) buf ≡ buffer_after d buf
unfolding buffer_after
by_answer d buf r e = ap (λ (x : Result ℕ Said). cond (is_ok x) (filled (encode d) buf) buf) e

pub refused : (d : Plain) (room : ℕ) (e : Said) → ◌≡◌ {A = Result (Unit {0}) Said} (Err e) (checked (rows d)) → ◌≡◌ {A = Result ℕ Said} (Err e) (write_answer d room)
unfolding write_answer
refused d room e h = ap (λ (x : Result (Unit {0}) Said). and_then x (λ _. room_answer (size d) room)) h

module _ (d : Plain) (room : ℕ) (h : ◌≡◌ {A = Result (Unit {0}) Said} (Ok tt) (checked (rows d))) where
  in_form : room_answer (size d) room ≡ write_answer d room
  unfolding write_answer
  in_form = ap (λ (x : Result (Unit {0}) Said). and_then x (λ _. room_answer (size d) room)) h

  pub too_long : 2048 < size d → ◌≡◌ {A = Result ℕ Said} (Err (says 401 [])) (write_answer d room)
  too_long n = sym (ap (λ b. cond b (cond (leb (size d) room) (Ok (size d)) (Err (says 502 []))) (Err (says 401 []))) (lt-leb _ _ n)) ∙ in_form

  pub no_room : size d ≤ 2048 → room < size d → ◌≡◌ {A = Result ℕ Said} (Err (says 502 [])) (write_answer d room)
  no_room n m = sym (λ i. cond (le-leb _ _ n i) (cond (lt-leb _ _ m i) (Ok (size d)) (Err (says 502 []))) (Err (says 401 []))) ∙ in_form

  pub all_written : size d ≤ 2048 → size d ≤ room → ◌≡◌ {A = Result ℕ Said} (Ok (size d)) (write_answer d room)
  all_written n m = sym (λ i. cond (le-leb _ _ n i) (cond (le-leb _ _ m i) (Ok (size d)) (Err (says 502 []))) (Err (says 401 []))) ∙ in_form

-- what holds where all was written
pub record Wrote (d : Plain) (room n : ℕ) : Type 0 where
  pub none : first_broken (rows d) ≡ None
  pub short : size d ≤ 2048
  pub fits : size d ≤ room
  pub is : n ≡ size d

pub wrote : (d : Plain) (room n : ℕ) → ◌≡◌ {A = Result ℕ Said} (Ok n) (write_answer d room) → Wrote d room n
unfolding write_answer
wrote d room n h =
    let t = ok_then (checked (rows d)) (λ _. room_answer (size d) room) n (sym h) in
    let a = ok_cond (leb (size d) 2048) _ _ n t.2 in
    let b = ok_part (leb (size d) room) n (size d) _ (sym a.1) in
    record { none = (unless_ok _ _ _ (sym t.1)).0; short = leb-true _ _ a.0; fits = leb-true _ _ b.0; is = b.1 }
