-- A record that was read and written again.
use Rattle.std.proofs.Common.{◌≡◌, ℕ, List, length, Ok, Err, Result, sym, refl, ap, ◌∙◌}
use Rattle.text.specs.Said.{Said}
use Rattle.envelope.specs.Views.{Whole}
use Rattle.envelope.specs.Results.{and_then}
use Rattle.envelope.specs.Decoding.{decode}
use Rattle.rewriting.specs.declared.fault.RewriteFault.{RewriteFault}
use Rattle.envelope_fields.specs.Plain.{plain_of}
use Rattle.writing.specs.Buffers.{filled}
use Rattle.rewriting.specs.Refusals.{rewrite_refusal}
use Rattle.writing.specs.Answers.{write_answer, buffer_after}
use Rattle.writing.specs.Trips.{Bytes}
use Rattle.rewriting.specs.Rewrites.{told_rewrite, rewrite_answer, after_reading, rewrite_after, Rewritten}
use Rattle.writing.proofs.Roomy.{by_answer}
use Rattle.writing.proofs.Trips.{written_of_read}
use Rattle.writing.proofs.Promises.{told_ok, lawful_writes}

module _ (rec buf : List ℕ) (w : Whole) (reads : ◌≡◌ {A = Result Whole Said} (decode rec) (Ok w)) where
  answer_of_read : rewrite_answer rec (length buf) ≡ write_answer (plain_of w) (length buf)
  answer_of_read = ap (λ (x : Result Whole Said). and_then x (λ v. write_answer (plain_of v) (length buf))) reads

  after_of_read : rewrite_after rec buf ≡ buffer_after (plain_of w) buf
  after_of_read = ap (λ (x : Result Whole Said). after_reading x buf) reads

after_refusal : (x : Result Whole Said) (buf : List ℕ) (e : Said) → ◌≡◌ {A = Result ℕ Said} (and_then x (λ w. write_answer (plain_of w) (length buf))) (Err e) → after_reading x buf ≡ buf
after_refusal (Err f) buf e h = refl
after_refusal (Ok w) buf e h = sym (by_answer (plain_of w) buf (Err e) (sym h))

module _ (rec before after : List ℕ) (r : Result ℕ RewriteFault) (answer : told_rewrite r ≡ rewrite_answer rec (length before)) (left : after ≡ rewrite_after rec before) where
  pub rewritten : Bytes rec → Rewritten rec before r after
  rewritten bytes = record {
    whole = λ w reads room. told_ok rewrite_refusal r (length rec) (answer ∙ answer_of_read rec before w reads ∙ lawful_writes rec w (length before) reads room);
    own = λ w reads room.
        left ∙ after_of_read rec before w reads ∙ sym (by_answer (plain_of w) before (Ok (length rec)) (sym (lawful_writes rec w (length before) reads room)))
        ∙ ap (λ x. filled x before) (written_of_read rec w bytes reads);
    left = λ f refused. left ∙ after_refusal (decode rec) before (rewrite_refusal f) (sym answer ∙ ap told_rewrite refused);
  }
