use Rattle.std.proofs.Common.{◌≡◌, ◌-◌, ◌≤◌, length, Option}
use Rattle.envelope.specs.Views.{Seen}
use Rattle.reason.specs.Sheets.{text_of, First}
use Rattle.reason.proofs.sheet.first_text.Given as goal

-- what is first from here on is first in the sheet
abbrev pub invariant-loop-line : goal.invariant-loop-line
invariant-loop-line l = (l.at ≤ length l.sheet) × ((o : Option Seen) → First l.sheet l.code l.at o → o ≡ text_of l.sheet l.code)

abbrev pub decreases-loop-line : goal.decreases-loop-line
decreases-loop-line l = length l.sheet - l.at
