-- Why a line is no call, in the words that the answer tells it by; and how a result is held against a defined one.
use Rattle.std.specs.Prelude.{◌≡◌, ℕ, List, Some, None, Ok, Err, codes, Option, Result}
use Rattle.arguments.specs.declared.fault.LineFault.{LineFault}
use Rattle.arguments.specs.declared.fault.LineFault.TheVariants.{TooLong, UnknownVerb, WrongWords, BadNumber, BadHex, BadWord, TableFull}
use Rattle.arguments.specs.declared.fault.CallFault.{CallFault}
use Rattle.arguments.specs.declared.fault.CallFault.TheVariants.{Line, Memory}

abbrev pub fault_text : LineFault → List ℕ
fault_text TooLong = codes "line too long"
fault_text UnknownVerb = codes "unknown verb"
fault_text WrongWords = codes "wrong words"
fault_text BadNumber = codes "bad number"
fault_text BadHex = codes "bad hex"
fault_text BadWord = codes "bad word"
fault_text TableFull = codes "table full"

-- r gives, seen by `view`, just what is defined; nothing is promised where there was no memory
abbrev pub Gives : {A B : Type 0} → (A → B) → Result A CallFault → Result B LineFault → Type 0
Gives view (Ok x) defined = defined ≡ Ok (view x)
Gives view (Err (Line f)) defined = defined ≡ Err f
Gives view (Err Memory) defined = Unit {0}

abbrev pub or_fault : {A : Type 0} → LineFault → Option A → Result A LineFault
or_fault f (Some x) = Ok x
or_fault f None = Err f
