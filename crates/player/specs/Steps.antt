-- What each call gives back, and the world after it: the relay, its connections and the two ledgers.
use Rattle.std.specs.Prelude.{ℕ, max, cond, List, Some, None, Ok, Err, Option, Result}
use Rattle.text.specs.Said.{Said}
use Rattle.message_rows.specs.declared.message.MessageRow.{MessageRow}
use Rattle.status_rows.specs.declared.status.StatusRow.{StatusRow}
use Rattle.client_rows.specs.declared.white_list.WhiteListRow.{WhiteListRow}
use Rattle.routing.specs.declared.row.RouteRow.{RouteRow}
use Rattle.relay.specs.States.{State, timed}
use Rattle.connection.specs.Admissions.{opened, admission, may_send}
use Rattle.connection.specs.declared.admitted.Admitted.{Admitted}
use Rattle.connection.specs.declared.admission.NotAdmitted.{NotAdmitted}
use Rattle.connections.specs.Slots.{admitted_at, is_free, with_slot}
use Rattle.connections.specs.declared.connections.Slot.{Slot}
use Rattle.connections.specs.declared.connections.Slot.TheVariants as slot
use Rattle.arrival.specs.Arrivals.{Outcome, arrival}
use Rattle.delivery.specs.HandOuts.{hand_out_answer, hand_out_state}
use Rattle.delivery.specs.Readings.{read_answer, read_buffer}
use Rattle.delivery.specs.Answers.{answer_told, answer_state}
use Rattle.sweeping.specs.Sweeps.{sweep_answer, sweep_state}
use Rattle.office.specs.Gifts.{oldest_answer, oldest_buffer, oldest_state}
use Rattle.searches.specs.Earliest.{Entry, Notified}
use Rattle.player.specs.declared.call.Call.{Call}
use Rattle.player.specs.declared.call.Call.TheVariants as call
use Rattle.player.specs.Answers.{Answer, admission_of}
use Rattle.player.specs.Answers.Answer.{no_call, of_admission, of_closing, of_arrival, of_hand_out, of_reading, of_answer, of_sweep, of_collection, of_notice}

pub record World : Type 0 where
  pub state : State
  pub slots : List Slot
  pub messages : List MessageRow
  pub statuses : List StatusRow

abbrev pub world : State → List Slot → List MessageRow → List StatusRow → World
world s slots ms ss = record { state = s; slots = slots; messages = ms; statuses = ss }

-- what a call gave back, and the world and the buffer after it
pub record Stepped : Type 0 where
  pub told : Answer
  pub world : World
  pub buffer : List ℕ

abbrev pub after : Answer → World → List ℕ → Stepped
after told w buf = record { told = told; world = w; buffer = buf }

-- only the relay has moved
abbrev pub with_state : World → State → World
with_state w s = world s w.slots w.messages w.statuses

abbrev pub with_slots : World → List Slot → World
with_slots w slots = world w.state slots w.messages w.statuses

abbrev pub admitted_by : World → ℕ → Result Admitted NotAdmitted → List ℕ → Stepped
admitted_by w number (Ok a) buf = after (of_admission (Ok (admission_of a))) (with_slots w (with_slot w.slots number (slot.Admitted a))) buf
admitted_by w number (Err refusal) buf = after (of_admission (Err refusal.fault)) w buf

-- under a number that is free, by the white list at the relay's time
abbrev pub admitted : World → ℕ → ℕ → List ℕ → List WhiteListRow → List ℕ → Stepped
admitted w clock number fingerprint clients buf =
    cond (is_free w.slots number)
    (admitted_by (with_state w (timed w.state clock)) number (admission (opened fingerprint) (max w.state.time clock) clients) buf)
    (after no_call w buf)

abbrev pub arrived_as : World → Outcome Said → List ℕ → Stepped
arrived_as w o buf = after (of_arrival o.answer) (world o.state w.slots o.messages o.statuses) buf

abbrev pub arrived_on : World → Option Admitted → ℕ → List ℕ → List RouteRow → List ℕ → Stepped
arrived_on w (Some a) clock rec routes buf = arrived_as w (arrival w.state (may_send a) a.neighbour clock rec routes w.messages w.statuses) buf
arrived_on w None clock rec routes buf = after no_call w buf

-- on the connection that is named
abbrev pub arrived : World → ℕ → ℕ → List ℕ → List RouteRow → List ℕ → Stepped
arrived w clock number rec routes buf = arrived_on w (admitted_at w.slots number) clock rec routes buf

abbrev pub closed_on : World → Option Admitted → ℕ → List ℕ → Stepped
closed_on w (Some a) number buf = after of_closing (with_slots w (with_slot w.slots number slot.Closed)) buf
closed_on w None number buf = after no_call w buf

abbrev pub closed : World → ℕ → List ℕ → Stepped
closed w number buf = closed_on w (admitted_at w.slots number) number buf

abbrev pub stepped : World → Call → List ℕ → Stepped
stepped w (call.Admit clock number fingerprint clients) buf = admitted w clock number fingerprint clients.now.rows.now buf
stepped w (call.Arrive clock number rec routes) buf = arrived w clock number rec.now routes.now buf
stepped w (call.Close number) buf = closed w number buf
stepped w (call.HandOut clock) buf = after (of_hand_out (hand_out_answer w.state clock)) (with_state w (hand_out_state w.state clock)) buf
stepped w (call.Read clock place number room) buf =
    after (of_reading (read_answer w.state place number buf)) (with_state w (timed w.state clock)) (read_buffer w.state place number buf)
stepped w (call.Answer clock place number outcome) buf =
    after (of_answer (answer_told w.state clock place number outcome)) (with_state w (answer_state w.state clock place number outcome)) buf
stepped w (call.Sweep clock) buf = after (of_sweep (sweep_answer w.state clock)) (with_state w (sweep_state w.state clock)) buf
stepped w (call.Collect clock room) buf =
    after (of_collection (oldest_answer Entry w.state clock buf)) (with_state w (oldest_state Entry w.state clock buf)) (oldest_buffer Entry w.state clock buf)
stepped w (call.Notice clock room) buf =
    after (of_notice (oldest_answer Notified w.state clock buf)) (with_state w (oldest_state Notified w.state clock buf)) (oldest_buffer Notified w.state clock buf)
