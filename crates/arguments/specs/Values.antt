-- What a word stands for where a call wants a number, hex digits or a text.
use Rattle.std.specs.Prelude.{ℕ, cond, List, [], take, drop, Some, None, Ok, codes, Option, Result}
use Rattle.std.specs.Str.{bytes_eq}
use Rattle.std.specs.Option.{unwrap_or}
use Rattle.digits.specs.Numbers.{number_of}
use Rattle.digits.specs.Hexes.{hex_of}
use Rattle.arguments.specs.Faults.{or_fault}
use Rattle.arguments.specs.declared.fault.LineFault.{LineFault}
use Rattle.arguments.specs.declared.fault.LineFault.TheVariants.{BadNumber, BadHex}

abbrev pub number_argument : ℕ → List ℕ → Result ℕ LineFault
number_argument most w = or_fault BadNumber (number_of most w)

-- what stands after `0x`, where the word begins with it
abbrev pub after_mark : List ℕ → Option (List ℕ)
after_mark w = cond (bytes_eq (take 2 w) (codes "0x")) (Some (drop 2 w)) None

-- hex digits, with or without the mark; `-` stands for no bytes
abbrev pub hex_argument : List ℕ → Result (List ℕ) LineFault
hex_argument w = cond (bytes_eq w (codes "-")) (Ok []) (or_fault BadHex (hex_of (unwrap_or (after_mark w) w)))

-- the bytes as they stand, or a mark and hex digits
abbrev pub as_text : List ℕ → Option (List ℕ) → Result (List ℕ) LineFault
as_text w (Some digits) = or_fault BadHex (hex_of digits)
as_text w None = Ok w

abbrev pub text_argument : List ℕ → Result (List ℕ) LineFault
text_argument w = as_text w (after_mark w)
