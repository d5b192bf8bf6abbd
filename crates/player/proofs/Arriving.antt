-- What an arrival did, from the reading of its record on.
use Rattle.std.proofs.Common.{◌≡◌, ℕ, ◌<◌, Bool, true, false, cond, eqb, ltb, List, Ok, Err, Result, refl, subst, inl, ltb-true, eqb-true}
use Rattle.text.specs.Said.{Said}
use Rattle.envelope.specs.Results.{viewed}
use Rattle.envelope.specs.Views.{Whole}
use Rattle.envelope.specs.Life.{end_of}
use Rattle.envelope.specs.Decoding.{decode}
use Rattle.message_rows.specs.declared.message.MessageRow.{MessageRow}
use Rattle.status_rows.specs.declared.status.StatusRow.{StatusRow}
use Rattle.routing.specs.declared.row.RouteRow.{RouteRow}
use Rattle.relay.specs.States.{State}
use Rattle.arrival_checks.specs.Answers.{arrival_refusal}
use Rattle.arrival_checks.specs.declared.answer.Arrived.{Arrived}
use Rattle.arrival_checks.specs.declared.answer.Arrived.TheVariants.{Entered, Waiting, Repeated, Unwanted}
use Rattle.arrival_checks.specs.declared.fault.ArrivalFault.{ArrivalFault}
use Rattle.arrival_checks.specs.declared.fault.ArrivalFault.TheVariants.{Originator, NotLive}
use Rattle.message_arrival.specs.Messages.{message_taken}
use Rattle.status_arrival.specs.Statuses.{status_taken}
use Rattle.arrival.specs.Arrivals.{Outcome, outcome, of_message, of_status, brought, originator_checked, when_passed, in_numbers, when_read}
use Rattle.account.specs.Accounts.{Account}
use Rattle.account.specs.Faith.{Faithful}
use Rattle.account.proofs.Known.{record_kind, or_right}
use Rattle.deeds.specs.Told.{arrival_deed}
use Rattle.deeds.specs.Ranges.{InRange, AllInRange, Done}
use Rattle.deeds.proofs.Arriving.{message_did, status_did}

-- a refusal's number tells no other deed than the fault
told_deed : (rec : List ℕ) (r : Result Arrived ArrivalFault) → arrival_deed rec r ≡ arrival_deed rec (viewed (λ x. x) arrival_refusal r)
told_deed rec (Ok (Entered p)) = refl
told_deed rec (Ok (Waiting p)) = refl
told_deed rec (Ok (Repeated c)) = refl
told_deed rec (Ok Unwanted) = refl
told_deed rec (Err fault) = refl

module _ (a : Account) (s : State) (rows : List MessageRow) (others : List StatusRow) (f : Faithful a s rows) (range : AllInRange s.places) (rec : List ℕ) (short : InRange rec) where
  abbrev Did : {E : Type 0} → Outcome E → Type 0
  Did o = Done (arrival_deed rec o.answer) s o.state rows o.messages

  still : {E : Type 0} (fault : E) → Did (outcome {E = E} (Err fault) s rows others)
  still fault = record { did = (inl refl, refl); in_range = range }

  module _ (w : Whole) (e : ◌≡◌ {A = Result Whole Said} (decode rec) (Ok w)) (neighbour : ℕ) (routes : List RouteRow) where
    by_kind : s.time < end_of w → (b : Bool) → eqb w.kind 1 ≡ b
        → Did (cond b (of_message (message_taken s neighbour w.fields rec routes rows) others) (of_status rows (status_taken s neighbour w.code w.fields rec routes others)))
    by_kind live true k = message_did a s rows f range rec w e short (eqb-true w.kind 1 k) live neighbour routes
    by_kind live false k =
        status_did a s rows f range rec w e short (eqb-true w.kind 2 (or_right (eqb w.kind 1) (eqb w.kind 2) (record_kind rec w e) k)) live others neighbour routes

    by_life : (b : Bool) → ltb s.time (end_of w) ≡ b
        → Did (cond b (cond (eqb w.kind 1) (of_message (message_taken s neighbour w.fields rec routes rows) others) (of_status rows (status_taken s neighbour w.code w.fields rec routes others))) (outcome (Err NotLive) s rows others))
    by_life true l = by_kind (ltb-true s.time (end_of w) l) (eqb w.kind 1) refl
    by_life false l = still NotLive

    by_originator : (b : Bool) → Did (when_passed s rows others (cond b (Ok tt) (Err Originator)) (brought s neighbour w rec routes rows others))
    by_originator true = by_life (ltb s.time (end_of w)) refl
    by_originator false = still Originator

  numbered : (o : Outcome ArrivalFault) → Did o → Did (in_numbers o)
  numbered o d = subst (λ x. Done x s o.state rows o.messages) (told_deed rec o.answer) d

  pub arrival_did : (may : List ℕ → Bool) (neighbour : ℕ) (routes : List RouteRow) (r : Result Whole Said) → decode rec ≡ r
      → Did (when_read s rows others r (λ w. in_numbers (when_passed s rows others (originator_checked may w) (brought s neighbour w rec routes rows others))))
  arrival_did may neighbour routes (Ok w) e =
      numbered (when_passed s rows others (originator_checked may w) (brought s neighbour w rec routes rows others)) (by_originator w e neighbour routes (may w.fields.fr.bytes))
  arrival_did may neighbour routes (Err refusal) e = still refusal
