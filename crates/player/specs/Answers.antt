-- What a call gives back, with the number and the values of a refusal in the place of the fault of an arrival.
use Rattle.std.specs.Prelude.{ℕ, Option, Result}
use Rattle.text.specs.Said.{Said}
use Rattle.envelope.specs.Results.{viewed}
use Rattle.arrival_checks.specs.Answers.{arrival_refusal}
use Rattle.arrival_checks.specs.declared.answer.Arrived.{Arrived}
use Rattle.connection.specs.Admissions.{address_of}
use Rattle.connection.specs.declared.admitted.Admitted.{Admitted}
use Rattle.connection.specs.declared.fault.AdmissionFault.{AdmissionFault}
use Rattle.delivery.specs.declared.fault.HandOutFault.{HandOutFault}
use Rattle.delivery.specs.declared.fault.ReadFault.{ReadFault}
use Rattle.delivery.specs.declared.fault.AnswerFault.{AnswerFault}
use Rattle.delivery.specs.declared.handing_out.HandOut.{HandOut}
use Rattle.ending.specs.declared.act.Done.{Done}
use Rattle.office.specs.declared.oldest.Given.{Given}
use Rattle.spool.specs.declared.fault.SpoolFault.{SpoolFault}
use Rattle.sweeping.specs.declared.sweep.Swept.{Swept}
use Rattle.player.specs.declared.told.Admission.{Admission}
use Rattle.player.specs.declared.told.Told.{Told}
use Rattle.player.specs.declared.told.Told.TheVariants as told

pub data Answer : Type 0 where
  no_call : Answer
  of_admission : Result Admission AdmissionFault → Answer
  of_closing : Answer
  of_arrival : Result Arrived Said → Answer
  of_hand_out : Result (Option HandOut) HandOutFault → Answer
  of_reading : Result ℕ ReadFault → Answer
  of_answer : Result Done AnswerFault → Answer
  of_sweep : Option Swept → Answer
  of_collection : Result (Option Given) SpoolFault → Answer
  of_notice : Result (Option Given) SpoolFault → Answer

abbrev pub answer_of : Told → Answer
answer_of told.NoCall = no_call
answer_of (told.Admitted r) = of_admission r
answer_of told.Closed = of_closing
answer_of (told.Arrived r) = of_arrival (viewed (λ x. x) arrival_refusal r)
answer_of (told.HandedOut r) = of_hand_out r
answer_of (told.Read r) = of_reading r
answer_of (told.Answered r) = of_answer r
answer_of (told.Swept r) = of_sweep r
answer_of (told.Collected r) = of_collection r
answer_of (told.Noticed r) = of_notice r

-- what is kept of a client that was admitted
abbrev pub admission_of : Admitted → Admission
admission_of a = record { neighbour = a.neighbour; class = a.class; address = address_of a }
