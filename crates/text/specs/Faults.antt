-- What a text is refused by: the number of each fault, and when each comes.
use Rattle.std.specs.Prelude.{ℕ, cond, List, [], Ok, Err, Result}
use Rattle.text.specs.Said.{Said, says}
use Rattle.text.specs.Forms.{is_address, is_dataflow}
use Rattle.text.specs.declared.fault.TextFault.{TextFault}
use Rattle.text.specs.declared.fault.TextFault.TheVariants.{NoAddress, NoDataflow}

abbrev pub text_refusal : TextFault → Said
text_refusal NoAddress = says 503 []
text_refusal NoDataflow = says 503 []

abbrev pub checked_address : List ℕ → Result (Unit {0}) TextFault
checked_address bs = cond (is_address bs) (Ok tt) (Err NoAddress)

abbrev pub checked_dataflow : List ℕ → Result (Unit {0}) TextFault
checked_dataflow bs = cond (is_dataflow bs) (Ok tt) (Err NoDataflow)
