-- What a record is refused by.
use Rattle.std.specs.Prelude.{[], ◌∷◌}
use Rattle.text.specs.Said.{Said, says}
use Rattle.envelope.specs.declared.fault.FieldFault.{FieldFault}
use Rattle.envelope.specs.declared.fault.RecordFault.{RecordFault}
use Rattle.envelope.specs.declared.fault.RecordFault.TheVariants.{Length, Kind, Field}

-- a broken field is told by its number and the offset of its start
abbrev pub record_refusal : RecordFault → Said
record_refusal Length = says 401 []
record_refusal Kind = says 402 []
record_refusal (Field f) = says 403 (f.field ∷ f.offset ∷ [])

abbrev pub field_refusal : FieldFault → Said
field_refusal f = record_refusal (Field f)
