-- What writing again is refused by.
use Rattle.text.specs.Said.{Said}
use Rattle.envelope.specs.Refusals.{record_refusal}
use Rattle.writing.specs.Refusals.{write_refusal}
use Rattle.rewriting.specs.declared.fault.RewriteFault.{RewriteFault}
use Rattle.rewriting.specs.declared.fault.RewriteFault.TheVariants.{Record, Write}

-- a fault keeps its number and its values
abbrev pub rewrite_refusal : RewriteFault → Said
rewrite_refusal (Record f) = record_refusal f
rewrite_refusal (Write f) = write_refusal f
