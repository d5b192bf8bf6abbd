-- What admission refuses by.
use Rattle.std.specs.Prelude.{[]}
use Rattle.text.specs.Said.{Said, says}
use Rattle.connection.specs.declared.fault.AdmissionFault.{AdmissionFault}
use Rattle.connection.specs.declared.fault.AdmissionFault.TheVariants.{NoLiveRow}

abbrev pub admission_refusal : AdmissionFault → Said
admission_refusal NoLiveRow = says 410 []
