-- What an arrival leaves, told by its answer.
use Rattle.std.proofs.Common.{◌≡◌, ℕ, Bool, true, false, cond, eqb, List, length, Ok, Err, Result, sym, refl, subst, arith}
use Rattle.std.proofs.lemmas.Bool.{le-leb, and_from}
use Rattle.text.specs.Said.{Said}
use Rattle.envelope.specs.Results.{viewed}
use Rattle.envelope.specs.Views.{Whole}
use Rattle.envelope.specs.Decoding.{decode}
use Rattle.envelope.specs.Life.{live_at}
use Rattle.envelope_reading.proofs.Laws.{laws}
use Rattle.message_rows.specs.declared.message.MessageRow.{MessageRow}
use Rattle.status_rows.specs.declared.status.StatusRow.{StatusRow}
use Rattle.routing.specs.declared.row.RouteRow.{RouteRow}
use Rattle.spool.specs.Meaning.{storable}
use Rattle.relay.specs.States.{State, timed}
use Rattle.arrival_checks.specs.declared.answer.Arrived.{Arrived}
use Rattle.arrival_checks.specs.declared.answer.Arrived.TheVariants.{Entered, Waiting, Repeated, Unwanted}
use Rattle.arrival_checks.specs.declared.fault.ArrivalFault.{ArrivalFault}
use Rattle.arrival_checks.specs.declared.fault.ArrivalFault.TheVariants.{NotLive}
use Rattle.arrival_checks.specs.Answers.{arrival_refusal}
use Rattle.intake.specs.Steps.{Taken}
use Rattle.intake.specs.Promises.{ByPlace, StoredAt, Settled}
use Rattle.message_arrival.specs.Messages.{message_taken}
use Rattle.message_arrival.proofs.Settles.{message_settled}
use Rattle.status_arrival.specs.Statuses.{status_taken}
use Rattle.status_arrival.proofs.Settles.{status_settled}
use Rattle.arrival.specs.Arrivals.{Outcome, outcome, of_message, of_status, brought, originator_checked, when_passed, in_numbers, when_read, arrival}

weaker : {E : Type 0} (r : Result Arrived E) (P P' : ℕ → Type 0) (Q Q' : Type 0) → ((p : ℕ) → P p → P' p) → (Q → Q') → ByPlace r P Q → ByPlace r P' Q'
weaker (Ok (Entered p)) P P' Q Q' f g h = f p h
weaker (Ok (Waiting p)) P P' Q Q' f g h = f p h
weaker (Ok (Repeated c)) P P' Q Q' f g h = g h
weaker (Ok Unwanted) P P' Q Q' f g h = g h
weaker (Err e) P P' Q Q' f g h = g h

-- the fault in numbers or not
in_numbers_lem : (r : Result Arrived ArrivalFault) (P : ℕ → Type 0) (Q : Type 0) → ByPlace r P Q → ByPlace (viewed (λ x. x) arrival_refusal r) P Q
in_numbers_lem (Ok (Entered p)) P Q h = h
in_numbers_lem (Ok (Waiting p)) P Q h = h
in_numbers_lem (Ok (Repeated c)) P Q h = h
in_numbers_lem (Ok Unwanted) P Q h = h
in_numbers_lem (Err e) P Q h = h

of_numbers : (r : Result Arrived ArrivalFault) (P : ℕ → Type 0) (Q : Type 0) → ByPlace (viewed (λ x. x) arrival_refusal r) P Q → ByPlace r P Q
of_numbers (Ok (Entered p)) P Q h = h
of_numbers (Ok (Waiting p)) P Q h = h
of_numbers (Ok (Repeated c)) P Q h = h
of_numbers (Ok Unwanted) P Q h = h
of_numbers (Err e) P Q h = h

-- a record that was read fits a place
readable : (bytes : List ℕ) (w : Whole) → ◌≡◌ {A = Result Whole Said} (decode bytes) (Ok w) → storable (length bytes) ≡ true
readable bytes w e =
    let l = (laws bytes w e).placed.sized in
    and_from _ _ (le-leb 1 (length bytes) (omega (arith, l.least))) (le-leb (length bytes) 2048 l.most)

module _ (bytes : List ℕ) (now : State) (ms : List MessageRow) (ss : List StatusRow) where
  abbrev Leaves : {E : Type 0} → Outcome E → Type 0
  Leaves o = ByPlace o.answer (StoredAt bytes now o.state) ((o.state ≡ now) × (o.messages ≡ ms) × (o.statuses ≡ ss))

  of_message_lem : (t : Taken MessageRow) → Settled bytes now ms t → Leaves (of_message t ss)
  of_message_lem t h = weaker t.answer (StoredAt bytes now t.state) _ _ _ (λ p x. x) (λ q. (q.0, q.1, refl)) h

  of_status_lem : (t : Taken StatusRow) → Settled bytes now ss t → Leaves (of_status ms t)
  of_status_lem t h = weaker t.answer (StoredAt bytes now t.state) _ _ _ (λ p x. x) (λ q. (q.0, refl, q.1)) h

  by_tests : (live message : Bool) (m s : Outcome ArrivalFault) → Leaves m → Leaves s → Leaves (cond live (cond message m s) (outcome (Err NotLive) now ms ss))
  by_tests true true m s hm hs = hm
  by_tests true false m s hm hs = hs
  by_tests false message m s hm hs = (refl, refl, refl)

  brought_leaves : (neighbour : ℕ) (w : Whole) (routes : List RouteRow) → storable (length bytes) ≡ true → Leaves (brought now neighbour w bytes routes ms ss)
  brought_leaves neighbour w routes takes =
      let m = message_taken now neighbour w.fields bytes routes ms in
      let s = status_taken now neighbour w.code w.fields bytes routes ss in
      by_tests (live_at w now.time) (eqb w.kind 1) (of_message m ss) (of_status ms s)
      (of_message_lem m (message_settled now neighbour w.fields bytes routes ms takes))
      (of_status_lem s (status_settled now neighbour w.code w.fields bytes routes ss takes))

  passed : (check : Result (Unit {0}) ArrivalFault) (next : Outcome ArrivalFault) → Leaves next → Leaves (when_passed now ms ss check next)
  passed (Ok x) next h = h
  passed (Err fault) next h = (refl, refl, refl)

  read : (may : List ℕ → Bool) (neighbour : ℕ) (routes : List RouteRow) (d : Result Whole Said) → decode bytes ≡ d → Leaves (when_read now ms ss d (λ w. in_numbers (when_passed now ms ss (originator_checked may w) (brought now neighbour w bytes routes ms ss))))
  read may neighbour routes (Ok w) e =
      let next = when_passed now ms ss (originator_checked may w) (brought now neighbour w bytes routes ms ss) in
      in_numbers_lem next.answer (StoredAt bytes now next.state) _ (passed (originator_checked may w) (brought now neighbour w bytes routes ms ss) (brought_leaves neighbour w routes (readable bytes w e)))
  read may neighbour routes (Err refusal) e = (refl, refl, refl)

-- the places and their standings are those of before the clock was read
untimed : (bytes : List ℕ) (s after : State) (clock place : ℕ) → StoredAt bytes (timed s clock) after place → StoredAt bytes s after place
untimed bytes s after clock place h = record { was_free = h.was_free; lowest = h.lowest; within = h.within; holds = h.holds; others = h.others }

module _ (s : State) (may : List ℕ → Bool) (neighbour clock : ℕ) (bytes : List ℕ) (routes : List RouteRow) (ms : List MessageRow) (ss : List StatusRow)
    (r : Result Arrived ArrivalFault) (after : State) (ms' : List MessageRow) (ss' : List StatusRow)
    (e : outcome (viewed (λ x. x) arrival_refusal r) after ms' ss' ≡ arrival s may neighbour clock bytes routes ms ss) where
  left : ByPlace r (StoredAt bytes (timed s clock) after) ((after ≡ timed s clock) × (ms' ≡ ms) × (ss' ≡ ss))
  left = of_numbers r (StoredAt bytes (timed s clock) after) _ (subst (Leaves bytes (timed s clock) ms ss) (sym e) (read bytes (timed s clock) ms ss may neighbour routes (decode bytes) refl))

  pub only_the_time : ByPlace r (λ _. Unit {0}) ((after ≡ timed s clock) × (ms' ≡ ms) × (ss' ≡ ss))
  only_the_time = weaker r (StoredAt bytes (timed s clock) after) _ _ _ (λ p x. tt) (λ q. q) left

  pub is_stored : ByPlace r (StoredAt bytes s after) (Unit {0})
  is_stored = weaker r (StoredAt bytes (timed s clock) after) _ ((after ≡ timed s clock) × (ms' ≡ ms) × (ss' ≡ ss)) _ (untimed bytes s after clock) (λ q. tt) left
