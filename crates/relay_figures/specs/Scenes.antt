-- The relay that the figures are about, from its first second on.
use Rattle.std.specs.Prelude.{ℕ, true, false, List, [], ◌∷◌, replicate, Some, None, codes, Result}
use Rattle.text.specs.Said.{Said}
use Rattle.envelope.specs.Results.{viewed}
use Rattle.envelope.specs.declared.parts.Kind.TheVariants.{Message, Status}
use Rattle.envelope_fields.specs.Plain.{Plain}
use Rattle.writing.specs.Encoding.{encode}
use Rattle.routing.specs.Making.{row_of}
use Rattle.routing.specs.declared.row.Way.TheVariants.{Local, Neighbour}
use Rattle.routing.specs.declared.row.RouteRow.{RouteRow}
use Rattle.message_rows.specs.Messages.{freed_message}
use Rattle.message_rows.specs.declared.message.MessageRow.{MessageRow}
use Rattle.status_rows.specs.Statuses.{freed_status}
use Rattle.status_rows.specs.declared.status.StatusRow.{StatusRow}
use Rattle.client_rows.specs.Clients.{nameless_client}
use Rattle.connection.specs.Admissions.{admitted_as, may_send}
use Rattle.connection.specs.declared.admitted.Admitted.{Admitted}
use Rattle.standing.specs.declared.standing.About.{About}
use Rattle.standing.specs.declared.standing.Standing.{Standing}
use Rattle.standing.specs.declared.standing.Standing.TheVariants.{Free}
use Rattle.relay.specs.States.{State, fresh}
use Rattle.ending.specs.declared.act.Done.{Done}
use Rattle.delivery.specs.HandOuts.{hand_out_state}
use Rattle.delivery.specs.Answers.{answer_told, answer_state}
use Rattle.delivery.specs.declared.fault.AnswerFault.{AnswerFault}
use Rattle.delivery.specs.declared.outcome.Outcome.TheVariants.{Silence, Acknowledge}
use Rattle.arrival_checks.specs.Answers.{arrival_says}
use Rattle.arrival.specs.Arrivals.{Outcome, arrival}
use Rattle.figures.specs.Figures.{berth_request}

-- a new relay with sixteen places
abbrev pub new_relay : State
new_relay = fresh (codes "XHB:GATE") (replicate 16 [])

-- ledgers of four rows
abbrev pub freed_messages : List MessageRow
freed_messages = replicate 4 freed_message

abbrev pub freed_statuses : List StatusRow
freed_statuses = replicate 4 freed_status

abbrev pub harbours : List RouteRow
harbours = row_of (Some (codes "XHB")) None (Neighbour 1) ∷ row_of (Some (codes "AAA")) None (Neighbour 5) ∷ []

-- neighbour 5, a Node
abbrev pub node : Admitted
node = admitted_as (nameless_client 5 2)

-- the Node brings a message
abbrev pub brings : State → List MessageRow → ℕ → Plain → Outcome Said
brings s rows clock d = arrival s (may_send node) node.neighbour clock (encode d) harbours rows freed_statuses

-- to the new relay
abbrev pub first : ℕ → Plain → Outcome Said
first clock d = brings new_relay freed_messages clock d

-- after the request for a berth
abbrev pub second : ℕ → Plain → Outcome Said
second clock d = brings (first clock berth_request).state (first clock berth_request).messages clock d

-- the numbers that stand for the answer
abbrev pub answered : Outcome Said → Result Said Said
answered o = viewed arrival_says (λ refusal. refusal) o.answer

-- a message came at 100
abbrev pub arrived : Plain → State
arrived d = (first 100 d).state

-- and was handed out at once
abbrev pub out_since100 : Plain → State
out_since100 d = hand_out_state (arrived d) 100

-- what is due is handed out, from place 0 under this try number, and the try ends in silence in the same second
abbrev pub failure : State → ℕ → ℕ → Result Done AnswerFault
failure s clock number = answer_told (hand_out_state s clock) clock 0 number Silence

abbrev pub after_failure : State → ℕ → ℕ → State
after_failure s clock number = answer_state (hand_out_state s clock) clock 0 number Silence

-- the request has failed at 100, then at 200, then at 400
abbrev pub failed_once : State
failed_once = after_failure (arrived berth_request) 100 1

abbrev pub failed_twice : State
failed_twice = after_failure failed_once 200 2

abbrev pub failed_thrice : State
failed_thrice = after_failure failed_twice 400 3

-- the neighbour answers the first try by a receipt
abbrev pub receipt : State → Result Done AnswerFault
receipt s = answer_told s 100 0 1 (Acknowledge 100)

abbrev pub after_receipt : State → State
after_receipt s = answer_state s 100 0 1 (Acknowledge 100)

-- the relay with one place in use, which is place 0, or none
abbrev pub with_place0 : ℕ → ℕ → Standing → List ℕ → State
with_place0 time given standing bytes = record {
  time = time;
  given = given;
  address = codes "XHB:GATE";
  standings = standing ∷ replicate 255 Free;
  places = bytes ∷ replicate 15 [];
}

-- what is known of the request
abbrev pub about_request : About
about_request = record { kind = Message; end = 999940; timeout = 60; receipt = true; notify = false; back = Neighbour 5 }

-- and of the report on it
abbrev pub about_report : About
about_report = record { kind = Status; end = 1604800; timeout = 60; receipt = true; notify = false; back = Local }

abbrev pub receipt_report : Plain
receipt_report = record {
  kind = 2;
  code = 100;
  todt = 1000000;
  to = 60;
  ar = 1;
  vb = 1;
  on = codes "FERRY000000000000001";
  fr = codes "XHB:GATE";
  ad = codes "AAA:F1";
  df = codes "urn:berth";
  ct = [];
  rest = [];
}
