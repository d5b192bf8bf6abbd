-- The lines of a text sheet: a length of the whole line and a code, each of two bytes, and a text.
use Rattle.std.specs.Prelude.{◌≡◌, ℕ, zero, suc, ◌+◌, ◌-◌, Bool, true, false, cond, ◌&&◌, List, length, take, drop, Some, None, Option, ◌==◌, ◌≢◌, nat_le}
use Rattle.envelope.specs.Integers.{u16_at}
use Rattle.envelope.specs.Views.{Seen, seen}
use Rattle.envelope.specs.declared.parts.Part.{Part}
use Rattle.reason.specs.declared.sheet.Line.{Line}

-- the length that the line at `at` gives itself
abbrev pub length_at : List ℕ → ℕ → ℕ
length_at sheet at = u16_at sheet at

abbrev pub code_at : List ℕ → ℕ → ℕ
code_at sheet at = u16_at sheet (at + 2)

abbrev pub text_at : List ℕ → ℕ → Seen
text_at sheet at = record { bytes = take (length_at sheet at - 4) (drop (at + 4) sheet); at = at + 4 }

-- a line of 4 bytes or more that does not run past the sheet
abbrev pub stands_at : List ℕ → ℕ → Bool
stands_at sheet at = nat_le 4 (length_at sheet at) && nat_le (at + length_at sheet at) (length sheet)

-- a line as it is read: its code, its text, and where the next line starts
pub record Lined : Type 0 where
  pub code : ℕ
  pub text : Seen
  pub next : ℕ

abbrev pub seen_line : Line → Lined
seen_line l = record { code = l.code; text = seen l.text; next = l.next }

-- the line that stands at `at`, if one does
abbrev pub line_at : List ℕ → ℕ → Option Lined
line_at sheet at = cond (stands_at sheet at) (Some (record { code = code_at sheet at; text = text_at sheet at; next = at + length_at sheet at })) None

-- the text of the first line with the code, of at most so many lines from the one at `at` on
abbrev pub text_from : ℕ → List ℕ → ℕ → ℕ → Option Seen
text_from zero sheet code at = None
text_from (suc turns) sheet code at =
    cond (stands_at sheet at)
    (cond (code_at sheet at == code) (Some (text_at sheet at)) (text_from turns sheet code (at + length_at sheet at)))
    None

-- each line has 4 bytes or more, so a sheet has no more lines than bytes
abbrev pub text_of : List ℕ → ℕ → Option Seen
text_of sheet code = text_from (length sheet) sheet code 0

-- how a part in the program is told
abbrev pub shown : Option Part → Option Seen
shown None = None
shown (Some p) = Some (seen p)

-- line by line from `at` on: the text of the first line with the code, or none where the lines end before
pub data First (sheet : List ℕ) (code : ℕ) : ℕ → Option Seen → Type 0 where
  ended : {at : ℕ} → stands_at sheet at ≡ false → First sheet code at None
  here : {at : ℕ} → stands_at sheet at ≡ true → code_at sheet at ≡ code → First sheet code at (Some (text_at sheet at))
  later : {at : ℕ} {text : Option Seen} → stands_at sheet at ≡ true → (code_at sheet at ≢ code)
      → First sheet code (at + length_at sheet at) text → First sheet code at text
