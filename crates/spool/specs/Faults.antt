-- What a spool refuses by: the number of each fault.
use Rattle.std.specs.Prelude.{[]}
use Rattle.text.specs.Said.{Said, says}
use Rattle.spool.specs.declared.fault.SpoolFault.{SpoolFault}
use Rattle.spool.specs.declared.fault.SpoolFault.TheVariants.{NoPlace, Unstorable, ShortBuffer}

abbrev pub spool_refusal : SpoolFault → Said
spool_refusal NoPlace = says 505 []
spool_refusal Unstorable = says 505 []
spool_refusal ShortBuffer = says 502 []
