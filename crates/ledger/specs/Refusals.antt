-- What a ledger refuses by.
use Rattle.std.specs.Prelude.{[]}
use Rattle.text.specs.Said.{Said, says}
use Rattle.ledger.specs.declared.fault.LedgerFault.{LedgerFault}
use Rattle.ledger.specs.declared.fault.LedgerFault.TheVariants.{NoRow}

abbrev pub ledger_refusal : LedgerFault → Said
ledger_refusal NoRow = says 301 []
