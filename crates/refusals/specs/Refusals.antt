-- A refusal as the outside sees it.
use Rattle.std.specs.Prelude.{ℕ, List, [], ◌∷◌, Some, None, Option}
use Rattle.text.specs.Said.{Said, says}
use Rattle.envelope.specs.declared.fault.FieldFault.{FieldFault}
use Rattle.refusals.specs.declared.refusal.Refusal.{Refusal}

-- its number, and field and offset where a field is broken
abbrev pub fault_values : Option FieldFault → List ℕ
fault_values None = []
fault_values (Some f) = f.field ∷ f.offset ∷ []

abbrev pub said_refusal : Refusal → Said
said_refusal r = says r.number (fault_values r.at)
