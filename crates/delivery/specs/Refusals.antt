-- What the calls of delivery refuse by.
use Rattle.std.specs.Prelude.{[]}
use Rattle.text.specs.Said.{Said, says}
use Rattle.spool.specs.Faults.{spool_refusal}
use Rattle.delivery.specs.declared.fault.HandOutFault.{HandOutFault}
use Rattle.delivery.specs.declared.fault.HandOutFault.TheVariants.{TriesUsed}
use Rattle.delivery.specs.declared.fault.ReadFault.{ReadFault}
use Rattle.delivery.specs.declared.fault.ReadFault.TheVariants as read
use Rattle.delivery.specs.declared.fault.AnswerFault.{AnswerFault}
use Rattle.delivery.specs.declared.fault.AnswerFault.TheVariants as answer

abbrev pub hand_out_refusal : HandOutFault → Said
hand_out_refusal TriesUsed = says 504 []

abbrev pub read_refusal : ReadFault → Said
read_refusal read.NotOut = says 501 []
read_refusal (read.Spool fault) = spool_refusal fault

abbrev pub answer_refusal : AnswerFault → Said
answer_refusal answer.NotOut = says 501 []
