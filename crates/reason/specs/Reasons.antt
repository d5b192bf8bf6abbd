-- The reason of a status: where it stands, and what it is.
use Rattle.std.specs.Prelude.{◌≡◌, ℕ, ◌≤◌, cond, List, [], length, Some, None, Ok, Err, Option, Result, ◌==◌}
use Rattle.text.specs.Said.{Said, says}
use Rattle.envelope.specs.Views.{Seen, Whole, seen}
use Rattle.envelope.specs.Lawful.{PartOf}
use Rattle.envelope.specs.Refusals.{record_refusal}
use Rattle.envelope.specs.Decoding.{viewed, and_then, decode_kind, decode}
use Rattle.envelope.specs.declared.fault.RecordFault.{RecordFault}
use Rattle.reason.specs.declared.answer.Reason.{Reason}
use Rattle.reason.specs.declared.answer.Reason.TheVariants.{Record, Sheet}
use Rattle.reason.specs.Sheets.{text_of, First}

-- a part of the record or of the sheet
pub data ToldReason : Type 0 where
  of_record : Seen → ToldReason
  of_sheet : Seen → ToldReason

abbrev pub told : Reason → ToldReason
told (Record p) = of_record (seen p)
told (Sheet p) = of_sheet (seen p)

abbrev pub told_answer : Result Reason RecordFault → Result ToldReason Said
told_answer r = viewed told record_refusal r

-- the sheet's text, or where it has none the status's own: empty, at the end of the record
abbrev pub or_own : Seen → Option Seen → ToldReason
or_own own None = of_record own
or_own own (Some text) = of_sheet text

-- a status's own text, or where it is empty the sheet's for its code
abbrev pub own_or_line : List ℕ → ℕ → Seen → ToldReason
own_or_line sheet code own = cond (length own.bytes == 0) (or_own own (text_of sheet code)) (of_record own)

-- a record that is no status is refused by its kind, before its fields are looked at
abbrev pub reason_of : List ℕ → List ℕ → Result ToldReason Said
reason_of rec sheet =
    and_then (decode_kind rec)
    (λ kind. cond (kind == 2) (and_then (decode rec) (λ w. Ok (own_or_line sheet w.code w.fields.rest))) (Err (says 402 [])))

-- a part of the slice that it names, at its place
abbrev pub Within : List ℕ → List ℕ → ToldReason → Type 0
Within rec sheet (of_record p) = PartOf rec p
Within rec sheet (of_sheet p) = PartOf sheet p

-- the three reasons that a status can have
pub data Reasoned (rec sheet : List ℕ) (w : Whole) : ToldReason → Type 0 where
  own : 1 ≤ length w.fields.rest.bytes → Reasoned rec sheet w (of_record w.fields.rest)
  line : {text : Seen} → w.fields.rest.bytes ≡ [] → First sheet w.code 0 (Some text) → Reasoned rec sheet w (of_sheet text)
  none : w.fields.rest.bytes ≡ [] → First sheet w.code 0 None → Reasoned rec sheet w (of_record (record { bytes = []; at = length rec }))

-- the record is a status, and this is its reason
pub record OfStatus (rec sheet : List ℕ) (reason : ToldReason) : Type 0 where
  pub whole : Whole
  pub status : decode_kind rec ≡ Ok 2
  pub decoded : decode rec ≡ Ok whole
  pub reasoned : Reasoned rec sheet whole reason
