-- What an arrival leaves, told by its answer: an envelope that was taken in lies in the place told, and no other moves
-- anything.
use Rattle.std.specs.Prelude.{◌≡◌, ℕ, ◌<◌, List, length, Some, Ok, Err, Result, ◌≢◌}
use Rattle.std.specs.List.{slice_get}
use Rattle.spool.specs.Meaning.{at}
use Rattle.standing.specs.declared.standing.Standing.TheVariants.{Free}
use Rattle.relay.specs.States.{State}
use Rattle.arrival_checks.specs.declared.answer.Arrived.{Arrived}
use Rattle.arrival_checks.specs.declared.answer.Arrived.TheVariants.{Entered, Waiting, Repeated, Unwanted}
use Rattle.intake.specs.Steps.{Taken}

-- P of the place of one that was taken in, and Q where none was
abbrev pub ByPlace : {E : Type 0} → Result Arrived E → (ℕ → Type 0) → Type 0 → Type 0
ByPlace (Ok (Entered place)) P Q = P place
ByPlace (Ok (Waiting place)) P Q = P place
ByPlace (Ok (Repeated code)) P Q = Q
ByPlace (Ok Unwanted) P Q = Q
ByPlace (Err fault) P Q = Q

-- the place was the lowest free one and is one of the spool's; afterwards it holds exactly the bytes, and every other what
-- it held
pub record StoredAt (bytes : List ℕ) (before after : State) (place : ℕ) : Type 0 where
  pub was_free : slice_get before.standings place ≡ Some Free
  pub lowest : (p : ℕ) → p < place → slice_get before.standings p ≢ Some Free
  pub within : place < length before.places
  pub holds : at place after.places ≡ bytes
  pub others : (p : ℕ) → (p ≢ place) → at p after.places ≡ at p before.places

-- of an arrival at one ledger
abbrev pub Settled : {R : Type 0} → List ℕ → State → List R → Taken R → Type 0
Settled bytes s rows t = ByPlace t.answer (StoredAt bytes s t.state) ((t.state ≡ s) × (t.rows ≡ rows))
