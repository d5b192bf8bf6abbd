-- What an observer learns from the answer of a call.
use Rattle.std.specs.Prelude.{ℕ, List, take, Some, None, Ok, Err, Option, Result}
use Rattle.spool.specs.declared.fault.SpoolFault.{SpoolFault}
use Rattle.arrival_checks.specs.declared.answer.Arrived.{Arrived}
use Rattle.arrival_checks.specs.declared.answer.Arrived.TheVariants.{Entered, Waiting, Repeated, Unwanted}
use Rattle.ending.specs.declared.act.Done.{Done}
use Rattle.ending.specs.declared.act.Done.TheVariants.{Waits, PassedOn, Reported, Noticed, Dropped}
use Rattle.delivery.specs.declared.fault.HandOutFault.{HandOutFault}
use Rattle.delivery.specs.declared.fault.AnswerFault.{AnswerFault}
use Rattle.delivery.specs.declared.handing_out.HandOut.{HandOut}
use Rattle.sweeping.specs.declared.sweep.Swept.{Swept}
use Rattle.office.specs.declared.oldest.Given.{Given}
use Rattle.account.specs.Deeds.{Deed}
use Rattle.account.specs.Deeds.Whereabouts.{waiting, out, inbox}
use Rattle.account.specs.Deeds.Deed.{nothing, taken_in, turned, passed_on, reported, collected, noticed, dropped}

-- only what is answered 100 or 200 is taken in
abbrev pub arrival_deed : {E : Type 0} → List ℕ → Result Arrived E → Deed
arrival_deed rec (Ok (Entered p)) = taken_in rec p inbox
arrival_deed rec (Ok (Waiting p)) = taken_in rec p waiting
arrival_deed rec (Ok (Repeated code)) = nothing
arrival_deed rec (Ok Unwanted) = nothing
arrival_deed rec (Err fault) = nothing

abbrev pub hand_out_deed : Result (Option HandOut) HandOutFault → Deed
hand_out_deed (Ok None) = nothing
hand_out_deed (Ok (Some h)) = turned h.place out
hand_out_deed (Err fault) = nothing

-- a status that becomes a notice stays where it is, and is counted once its notice is given
abbrev pub done_deed : ℕ → Done → Deed
done_deed place (Waits due) = turned place waiting
done_deed place (PassedOn kind) = passed_on kind place
done_deed place (Reported code) = reported place
done_deed place Noticed = nothing
done_deed place (Dropped kind) = dropped kind

abbrev pub answer_deed : ℕ → Result Done AnswerFault → Deed
answer_deed place (Ok done) = done_deed place done
answer_deed place (Err fault) = nothing

abbrev pub sweep_deed : Option Swept → Deed
sweep_deed None = nothing
sweep_deed (Some swept) = done_deed swept.place swept.done

-- the bytes that were given stand at the front of the buffer
abbrev pub collect_deed : Result (Option Given) SpoolFault → List ℕ → Deed
collect_deed (Ok None) buf = nothing
collect_deed (Ok (Some g)) buf = collected g.kind (take g.length buf)
collect_deed (Err fault) buf = nothing

abbrev pub notice_deed : Result (Option Given) SpoolFault → Deed
notice_deed (Ok None) = nothing
notice_deed (Ok (Some g)) = noticed g.kind
notice_deed (Err fault) = nothing
