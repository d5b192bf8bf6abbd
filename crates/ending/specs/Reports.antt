-- The report on a message: a status that goes back to where the message came from.
use Rattle.std.specs.Prelude.{ℕ, Bool, true, false, cond, List, [], is_ok, Some, None, Ok, Err, Option, Result, ◌==◌}
use Rattle.std.specs.Borrow.{Bor}
use Rattle.text.specs.Said.{Said}
use Rattle.envelope.specs.Views.{Whole, Fields, whole}
use Rattle.envelope.specs.Decoding.{decode}
use Rattle.envelope_fields.specs.Plain.{Plain}
use Rattle.writing.specs.Encoding.{encode}
use Rattle.writing.specs.Answers.{write_answer}
use Rattle.routing.specs.declared.row.Way.{Way}
use Rattle.routing.specs.declared.row.Way.TheVariants.{Local}
use Rattle.spool.specs.Meaning.{at}
use Rattle.standing.specs.declared.standing.About.{About}
use Rattle.relay.specs.Abouts.{about_of}
use Rattle.relay.specs.States.{State}
use Rattle.relay.specs.Moves.{settled, discharged}
use Rattle.ending.specs.declared.report.Written.{Written}

-- from the relay's address to the message's sender, with this code, the message's other fields, and no text
abbrev pub report_on : List ℕ → ℕ → Fields → Plain
report_on address code f = record {
  kind = 2;
  code = code;
  todt = f.todt;
  to = f.to;
  ar = f.ar;
  vb = f.vb;
  on = f.on.bytes;
  fr = address;
  ad = f.fr.bytes;
  df = f.df.bytes;
  ct = f.ct.bytes;
  rest = [];
}

-- a report: its record, and what is kept of it
pub record Report : Type 0 where
  pub bytes : List ℕ
  pub about : About

-- the record of these fields; none where a field is not in form
abbrev pub written_as : Plain → Option (List ℕ)
written_as d = cond (is_ok (write_answer d 2048)) (Some (encode d)) None

-- what is kept is that of a status with the message's fields; it has no way back
abbrev pub kept : Option (List ℕ) → ℕ → Fields → Option Report
kept (Some bytes) code f = Some (record { bytes = bytes; about = about_of (whole 2 code f) Local })
kept None code f = None

abbrev pub report_from : List ℕ → ℕ → Result Whole Said → Option Report
report_from address code (Ok w) = cond (w.kind == 1) (kept (written_as (report_on address code w.fields)) code w.fields) None
report_from address code (Err refusal) = None

-- none where the record is no message
abbrev pub report_for : List ℕ → ℕ → List ℕ → Option Report
report_for address code rec = report_from address code (decode rec)

-- a report as the program holds it
abbrev pub seen_report : Option Written → Option Report
seen_report (Some r) = Some (record { bytes = r.bytes.now; about = r.about })
seen_report None = None

abbrev pub lent : Option (Bor (List ℕ)) → Option (List ℕ)
lent (Some r) = Some r.now
lent None = None

abbrev pub report_at : State → ℕ → ℕ → Option Report
report_at s place code = report_for s.address code (at place s.places)

abbrev pub is_some : Option Report → Bool
is_some (Some r) = true
is_some None = false

abbrev pub is_reported : State → ℕ → ℕ → Bool
is_reported s place code = is_some (report_at s place code)

abbrev pub with_report : State → ℕ → Way → Option Report → State
with_report s place back (Some r) = settled s place back r.about r.bytes
with_report s place back None = discharged s place

-- the place holds the report, on its way back; a place that holds no message is dropped
abbrev pub reported : State → ℕ → ℕ → Way → State
reported s place code back = with_report s place back (report_at s place code)
