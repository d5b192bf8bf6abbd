-- The key that an envelope has in its ledger.
use Rattle.std.specs.Prelude.{Some, None, Ok, Err, Option, Result}
use Rattle.ledger.specs.declared.fault.LedgerFault.TheVariants.{NoRow}
use Rattle.arrival_checks.specs.declared.fault.ArrivalFault.{ArrivalFault}
use Rattle.arrival_checks.specs.declared.fault.ArrivalFault.TheVariants.{Ledger}

-- no row keeps a text of more than 64 bytes; an envelope that was read has none
abbrev pub or_no_row : {K : Type 0} → Option K → Result K ArrivalFault
or_no_row (Some key) = Ok key
or_no_row None = Err (Ledger NoRow)
