-- What writing is refused by.
use Rattle.std.specs.Prelude.{[], ◌∷◌}
use Rattle.text.specs.Said.{Said, says}
use Rattle.writing.specs.declared.fault.WriteFault.{WriteFault}
use Rattle.writing.specs.declared.fault.WriteFault.TheVariants.{Field, Length, Buffer}

-- a broken field is told by its number and the offset of its start
abbrev pub write_refusal : WriteFault → Said
write_refusal (Field f) = says 403 (f.field ∷ f.offset ∷ [])
write_refusal Length = says 401 []
write_refusal Buffer = says 502 []
