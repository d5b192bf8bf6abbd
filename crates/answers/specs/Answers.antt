-- The line that tells an answer.
use Rattle.std.specs.Prelude.{◌≡◌, ℕ, List, [], ◌∷◌, ◌++◌, length, Some, None, codes, decimal, Option}
use Rattle.digits.specs.Hexes.{hex_text}
use Rattle.text.specs.Said.{Said}
use Rattle.envelope.specs.Views.{Seen, Whole, held}
use Rattle.routing.specs.declared.row.Way.{Way}
use Rattle.routing.specs.declared.row.Way.TheVariants.{Local, Neighbour}
use Rattle.reason.specs.Reasons.{ToldReason, of_record, of_sheet}
use Rattle.reason.specs.Reasons as reasons
use Rattle.refusals.specs.Refusals.{said_refusal}
use Rattle.arguments.specs.Faults.{fault_text}
use Rattle.arguments.specs.declared.fault.LineFault.{LineFault}
use Rattle.answer_pieces.specs.Pieces.{grouped, joined_groups}
use Rattle.answer_pieces.specs.Texts.{keyed_number, text_pieces}
use Rattle.answer_pieces.specs.Lines.{line_onto}
use Rattle.envelope_line.specs.EnvelopeLines.{told_groups}
use Rattle.answers.specs.declared.answer.Answer.{Answer}
use Rattle.answers.specs.declared.answer.Answer.TheVariants as answer
use Rattle.answers.specs.declared.answer.Verb.{Verb}
use Rattle.answers.specs.declared.answer.Verb.TheVariants as verb
use Rattle.answers.specs.declared.counts.Counts.{Counts}

-- what there is to tell
pub data ToldAnswer : Type 0 where
  written : List ℕ → ToldAnswer
  told : Whole → ToldAnswer
  chosen : Option Way → ToldAnswer
  explained : ToldReason → ToldAnswer
  refused : Verb → Said → ToldAnswer
  error : LineFault → ToldAnswer

abbrev pub told_answer : Answer → ToldAnswer
told_answer (answer.Record bytes) = written bytes.now
told_answer (answer.Envelope envelope) = told (held envelope)
told_answer (answer.Way way) = chosen way
told_answer (answer.Reason reason) = explained (reasons.told reason)
told_answer (answer.Refusal verb refusal) = refused verb (said_refusal refusal)
told_answer (answer.Error fault) = error fault

abbrev pub verb_text : Verb → List ℕ
verb_text verb.Envelope = codes "envelope"
verb_text verb.Way = codes "way"
verb_text verb.Reason = codes "reason"

-- LENGTH HEX
abbrev pub written_pieces : List ℕ → List (List ℕ)
written_pieces bs = codes "envelope " ∷ decimal (length bs) ∷ codes " " ∷ hex_text bs ∷ []

-- way neighbour K | way local | way none
abbrev pub chosen_pieces : Way → List (List ℕ)
chosen_pieces Local = codes "way local" ∷ []
chosen_pieces (Neighbour k) = codes "way neighbour " ∷ decimal k ∷ []

abbrev pub way_pieces : Option Way → List (List ℕ)
way_pieces None = codes "way none" ∷ []
way_pieces (Some way) = chosen_pieces way

-- reason record|sheet OFFSET TEXT
abbrev pub placed_text : List ℕ → Seen → List (List ℕ)
placed_text name p = name ∷ decimal p.at ∷ codes " " ∷ text_pieces p.bytes

abbrev pub reason_pieces : ToldReason → List (List ℕ)
reason_pieces (of_record p) = placed_text (codes "reason record ") p
reason_pieces (of_sheet p) = placed_text (codes "reason sheet ") p

-- VERB refused CODE, and field F offset O where there is a broken field
abbrev pub field_pieces : ℕ → ℕ → List (List ℕ)
field_pieces f o = codes " field " ∷ decimal f ∷ codes " offset " ∷ decimal o ∷ []

abbrev pub value_pieces : List ℕ → List (List ℕ)
value_pieces [] = []
value_pieces (f ∷ []) = []
value_pieces (f ∷ (o ∷ vs)) = field_pieces f o

abbrev pub refused_pieces : Verb → Said → List (List ℕ)
refused_pieces v s = verb_text v ∷ codes " refused " ∷ decimal s.number ∷ value_pieces s.values

abbrev pub error_pieces : LineFault → List (List ℕ)
error_pieces f = codes "error " ∷ fault_text f ∷ []

abbrev pub answer_groups : ToldAnswer → List (List (List ℕ))
answer_groups (written bs) = written_pieces bs ∷ []
answer_groups (told w) = told_groups w
answer_groups (chosen way) = way_pieces way ∷ []
answer_groups (explained reason) = reason_pieces reason ∷ []
answer_groups (refused v said) = refused_pieces v said ∷ []
answer_groups (error fault) = error_pieces fault ∷ []

-- out with the line N ANSWER and its line feed after it
abbrev pub answer_onto : List ℕ → ℕ → ToldAnswer → List ℕ
answer_onto out n a = line_onto out n (answer_groups a)

-- end lines L calls C refused R errors E
abbrev pub end_groups : Counts → List (List (List ℕ))
end_groups c =
    keyed_number (codes "end lines ") c.lines
    ∷ keyed_number (codes " calls ") c.calls
    ∷ keyed_number (codes " refused ") c.refused
    ∷ keyed_number (codes " errors ") c.errors
    ∷ []

abbrev pub end_onto : List ℕ → Counts → List ℕ
end_onto out c = grouped out (end_groups c) ++ (10 ∷ [])

-- a line is one text, and stands whole behind what was there
pub record LinesStandBehind : Type 0 where
  pub answer : (out : List ℕ) (n : ℕ) (a : ToldAnswer) → answer_onto out n a ≡ out ++ (decimal n ++ (codes " " ++ (joined_groups (answer_groups a) ++ (10 ∷ []))))
  pub end : (out : List ℕ) (c : Counts) → end_onto out c ≡ out ++ (joined_groups (end_groups c) ++ (10 ∷ []))
