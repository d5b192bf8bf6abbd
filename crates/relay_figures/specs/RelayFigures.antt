-- The relay's worked figures: the request for a berth arrives, is handed out, and is answered, or not.
use Rattle.std.specs.Prelude.{◌≡◌, ℕ, List, [], ◌∷◌, length, Some, None, Ok, Err, codes, Result}
use Rattle.text.specs.Said.{Said, says}
use Rattle.envelope.specs.Decoding.{decode}
use Rattle.envelope.specs.Results.{viewed}
use Rattle.envelope.specs.Views.{Whole}
use Rattle.envelope.specs.declared.parts.Kind.TheVariants.{Message}
use Rattle.writing.specs.Encoding.{encode}
use Rattle.spool.specs.Meaning.{at}
use Rattle.standing.specs.declared.standing.Standing.TheVariants.{Free, Waiting, Out}
use Rattle.relay.specs.States.{timed}
use Rattle.ending.specs.declared.act.Done.TheVariants.{Waits, PassedOn, Reported}
use Rattle.arrival.specs.Arrivals.{outcome}
use Rattle.sweeping.specs.Sweeps.{sweep_answer, sweep_state}
use Rattle.figures.specs.Figures.{berth_request}
use Rattle.relay_figures.specs.Requests.{in_small_letters, a_second_later, wanting_no_receipt}
use Rattle.relay_figures.specs.Scenes.{new_relay, freed_messages, freed_statuses, first, second, answered, arrived, out_since100, failure, failed_once, failed_twice, failed_thrice, receipt, after_receipt, with_place0, about_request, about_report, receipt_report}

abbrev pub request : List ℕ
request = encode berth_request

-- of an envelope: its code, and the bytes of AD
abbrev pub code_and_addressee : Result Whole Said → Result Said Said
code_and_addressee r = viewed (λ w. says w.code w.fields.ad.bytes) (λ refusal. refusal) r

-- before it expires, and when it does
pub record Arriving : Type 0 where
  pub taken_at_the_last_second : answered (first 999939 berth_request) ≡ Ok (says 200 (0 ∷ []))
  pub waits_for_neighbour_1 : (first 999939 berth_request).state ≡ with_place0 999939 0 (Waiting 1 999939 0 about_request) request
  pub refused_at_its_expiry : answered (first 999940 berth_request) ≡ Err (says 405 [])
  pub refused_moves_only_the_time :
      first 999940 berth_request ≡ outcome (Err (says 405 [])) (timed new_relay 999940) freed_messages freed_statuses

-- once it was taken in
pub record ArrivingAgain : Type 0 where
  pub repeated_in_other_letters : answered (second 100 in_small_letters) ≡ Ok (says 201 [])
  pub different_by_its_todt : answered (second 100 a_second_later) ≡ Err (says 411 [])

-- three tries that fail, at 100, at 200 and at 400
pub record Failing : Type 0 where
  pub out_since_100 : out_since100 berth_request ≡ with_place0 100 1 (Out 1 1 100 0 about_request) request
  pub first_due_at_160 : failure (arrived berth_request) 100 1 ≡ Ok (Waits 160)
  pub waits_until_160 : failed_once ≡ with_place0 100 1 (Waiting 1 160 1 about_request) request
  pub second_due_at_320 : failure failed_once 200 2 ≡ Ok (Waits 320)
  pub waits_until_320 : failed_twice ≡ with_place0 200 2 (Waiting 1 320 2 about_request) request
  pub third_due_at_700 : failure failed_twice 400 3 ≡ Ok (Waits 700)
  pub waits_until_700 : failed_thrice ≡ with_place0 400 3 (Waiting 1 700 3 about_request) request

-- out since 100, with a timeout of 60
pub record SweptOut : Type 0 where
  pub not_given_up_at_159 : sweep_answer (out_since100 berth_request) 159 ≡ None
  pub out_at_159 : sweep_state (out_since100 berth_request) 159 ≡ timed (out_since100 berth_request) 159
  pub given_up_at_160 : sweep_answer (out_since100 berth_request) 160 ≡ Some (record { place = 0; done = Waits 220 })
  pub waits_until_220 : sweep_state (out_since100 berth_request) 160 ≡ with_place0 160 1 (Waiting 1 220 1 about_request) request

-- the neighbour answers 100
pub record Receipted : Type 0 where
  pub reported : receipt (out_since100 berth_request) ≡ Ok (Reported 100)
  pub report_goes_back :
      after_receipt (out_since100 berth_request) ≡ with_place0 100 1 (Waiting 5 100 0 about_report) (encode receipt_report)
  pub report_length : length (at 0 (after_receipt (out_since100 berth_request)).places) ≡ 65
  pub report_read : code_and_addressee (decode (at 0 (after_receipt (out_since100 berth_request)).places)) ≡ Ok (says 100 (codes "AAA:F1"))
  pub passed_on_with_ar_0 : receipt (out_since100 wanting_no_receipt) ≡ Ok (PassedOn Message)
  pub nothing_left_with_ar_0 : after_receipt (out_since100 wanting_no_receipt) ≡ with_place0 100 1 Free []

pub record RelayFigures : Type 0 where
  pub arriving : Arriving
  pub arriving_again : ArrivingAgain
  pub failing : Failing
  pub swept_out : SweptOut
  pub receipted : Receipted
