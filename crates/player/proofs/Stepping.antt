-- Each call keeps the relay as the account of its calls has it.
use Rattle.std.proofs.Common.{◌≡◌, ℕ, max, true, false, cond, List, [], ◌∷◌, ◌++◌, Some, None, Ok, Err, Option, Result, sym, refl, subst, Bor}
use Rattle.std.proofs.lemmas.List.Sums.{fold_push}
use Rattle.envelope.specs.Decoding.{decode}
use Rattle.relay.specs.States.{timed}
use Rattle.connection.specs.Admissions.{opened, admission, may_send}
use Rattle.connection.specs.declared.admitted.Admitted.{Admitted}
use Rattle.connection.specs.declared.admission.NotAdmitted.{NotAdmitted}
use Rattle.connections.specs.Slots.{admitted_at, is_free}
use Rattle.routing.specs.declared.row.RouteRow.{RouteRow}
use Rattle.account.specs.Accounts.{Account, clocked, book, empty}
use Rattle.account.specs.Deeds.{Deed}
use Rattle.account.specs.Laws.{Laws}
use Rattle.account.proofs.Kept.{clocked_faithful, kept}
use Rattle.account.proofs.Lawful.{lawful}
use Rattle.deeds.specs.Ranges.{InRange, Done}
use Rattle.deeds.proofs.HandingOut.{hand_out_did}
use Rattle.deeds.proofs.Answering.{answer_did}
use Rattle.deeds.proofs.Sweeping.{sweep_did}
use Rattle.deeds.proofs.Giving.{collect_did, notice_did}
use Rattle.player.specs.declared.call.Call.{Call}
use Rattle.player.specs.declared.call.Call.TheVariants as call
use Rattle.player.specs.Answers.{Answer}
use Rattle.player.specs.Answers.Answer.{no_call}
use Rattle.player.specs.Steps.{World, Stepped, stepped, admitted_by, arrived_on, closed_on, with_state, after}
use Rattle.player.specs.Runs.{Event, event, enter, book_event, account, Agrees, Brings}
use Rattle.player.proofs.Arriving.{arrival_did}

module _ (a : Account) (w : World) (g : Agrees a w) where
  -- a clock reading
  read_clock : (clock : ℕ) → Agrees (clocked a clock) (with_state w (timed w.state clock))
  read_clock clock = record { faithful = clocked_faithful a w.state w.messages clock g.faithful; in_range = g.in_range }

  -- a clock reading, and then a deed
  done : (clock : ℕ) (deed : Deed) (w' : World) → Done deed (timed w.state clock) w'.state w.messages w'.messages → Agrees (book (clocked a clock) deed) w'
  done clock deed w' d = record {
    faithful = kept deed (clocked a clock) (timed w.state clock) w'.state w.messages w'.messages (read_clock clock).faithful d.did;
    in_range = d.in_range;
  }

  abbrev Keeps : Call → Stepped → Type 0
  Keeps c s = Agrees (enter a c s.told s.buffer) s.world

  admits : (c : Call) (clock number : ℕ) (r : Result Admitted NotAdmitted) (buf : List ℕ) → Agrees (clocked a clock) (with_state w (timed w.state clock))
      → (reading : clock ≡ Rattle.player.specs.Runs.reading_of c) → Keeps c (admitted_by (with_state w (timed w.state clock)) number r buf)
  admits c clock number (Ok x) buf h e = subst (λ t. Agrees (clocked a t) (admitted_by (with_state w (timed w.state clock)) number (Ok x) buf).world) e (record { faithful = h.faithful; in_range = h.in_range })
  admits c clock number (Err refusal) buf h e = subst (λ t. Agrees (clocked a t) (admitted_by (with_state w (timed w.state clock)) number (Err refusal) buf).world) e h

  arrives : (clock number : ℕ) (rec : Bor (List ℕ)) (routes : Bor (List RouteRow)) (o : Option Admitted) (buf : List ℕ) → InRange rec.now
      → Keeps (call.Arrive clock number rec routes) (arrived_on w o clock rec.now routes.now buf)
  arrives clock number rec routes (Some x) buf short =
      done clock _ _ (arrival_did (clocked a clock) (timed w.state clock) w.messages w.statuses (read_clock clock).faithful g.in_range rec.now short (may_send x) x.neighbour routes.now (decode rec.now) refl)
  arrives clock number rec routes None buf short = g

  closes : (number : ℕ) (o : Option Admitted) (buf : List ℕ) → Keeps (call.Close number) (closed_on w o number buf)
  closes number (Some x) buf = record { faithful = g.faithful; in_range = g.in_range }
  closes number None buf = g

  pub step_keeps : (c : Call) (buf : List ℕ) → Brings c → Keeps c (stepped w c buf)
  step_keeps (call.Admit clock number fingerprint clients) buf short =
      elim (is_free w.slots number) as (λ b. Keeps (call.Admit clock number fingerprint clients) (cond b (admitted_by (with_state w (timed w.state clock)) number (admission (opened fingerprint) (max w.state.time clock) clients.now.rows.now) buf) (after no_call w buf))) [
        | true ↦ admits (call.Admit clock number fingerprint clients) clock number (admission (opened fingerprint) (max w.state.time clock) clients.now.rows.now) buf (read_clock clock) refl
        | false ↦ g
      ]
  step_keeps (call.Arrive clock number rec routes) buf short = arrives clock number rec routes (admitted_at w.slots number) buf short
  step_keeps (call.Close number) buf short = closes number (admitted_at w.slots number) buf
  step_keeps (call.HandOut clock) buf short = done clock _ _ (hand_out_did (clocked a clock) (timed w.state clock) w.messages (read_clock clock).faithful g.in_range)
  step_keeps (call.Read clock place number room) buf short = read_clock clock
  step_keeps (call.Answer clock place number outcome) buf short =
      done clock _ _ (answer_did (clocked a clock) (timed w.state clock) w.messages (read_clock clock).faithful g.in_range place number outcome)
  step_keeps (call.Sweep clock) buf short = done clock _ _ (sweep_did (clocked a clock) (timed w.state clock) w.messages (read_clock clock).faithful g.in_range)
  step_keeps (call.Collect clock room) buf short = done clock _ _ (collect_did (clocked a clock) (timed w.state clock) w.messages (read_clock clock).faithful g.in_range buf)
  step_keeps (call.Notice clock room) buf short = done clock _ _ (notice_did (clocked a clock) (timed w.state clock) w.messages (read_clock clock).faithful g.in_range buf)

-- one call more at the end of a log
pub longer : (log : List Event) (w w' : World) (c : Call) (told : Answer) (buf buf' : List ℕ) → after told w' buf' ≡ stepped w c buf → Brings c
    → Agrees (account log) w → Agrees (account (log ++ (event c told buf' ∷ []))) w'
longer log w w' c told buf buf' e short g =
    let k = step_keeps (account log) w g c buf short in
    let m : Agrees (enter (account log) c told buf') w' = subst (λ s. Agrees (enter (account log) c s.told s.buffer) s.world) (sym e) k in
    subst (λ a. Agrees a w') (sym (fold_push book_event empty log (event c told buf'))) m

pub laws_hold : (a : Account) (w : World) → Agrees a w → Laws a w.state
laws_hold a w g = lawful a w.state w.messages g.faithful
