-- What reading a record answers, and how an answer in the program is told as one.
use Rattle.std.specs.Prelude.{◌≡◌, ℕ, cond, List, [], Ok, Err, Result}
use Rattle.text.specs.Said.{Said, says}
pub use Rattle.envelope.specs.Results.{viewed, and_then, unless}
use Rattle.envelope.specs.Integers.{u16_at}
use Rattle.envelope.specs.Limits.{length_ok, kind_ok}
use Rattle.envelope.specs.Views.{Whole, Fields, whole, held, kind_number, view}
use Rattle.envelope.specs.Layout.{Row, rows, first_broken, fields}
use Rattle.envelope.specs.Refusals.{record_refusal, field_refusal}
use Rattle.envelope.specs.declared.parts.Envelope.{Envelope}
use Rattle.envelope.specs.declared.parts.Kind.{Kind}
use Rattle.envelope.specs.declared.parts.Parts.{Parts}
use Rattle.envelope.specs.declared.fault.RecordFault.{RecordFault}
use Rattle.envelope.specs.declared.fault.FieldFault.{FieldFault}

-- whether all rows are in form
abbrev pub checked : List Row → Result (Unit {0}) Said
checked fs = unless (first_broken fs) tt

-- the kind of a record whose length is right
abbrev pub decode_kind : List ℕ → Result ℕ Said
decode_kind r = cond (length_ok r) (cond (kind_ok (u16_at r 2)) (Ok (u16_at r 2)) (Err (says 402 []))) (Err (says 401 []))

abbrev pub decode : List ℕ → Result Whole Said
decode r = and_then (decode_kind r) (λ k. unless (first_broken (rows r)) (whole k (u16_at r 12) (fields r)))

abbrev pub told : Result Envelope RecordFault → Result Whole Said
told r = viewed held record_refusal r

abbrev pub told_kind : Result Kind RecordFault → Result ℕ Said
told_kind r = viewed kind_number record_refusal r

-- the kind that the number stands for, or the refusal where it stands for none
abbrev pub NumbersKind : ℕ → Result Kind RecordFault → Type 0
NumbersKind n r = told_kind r ≡ cond (kind_ok n) (Ok n) (Err (says 402 []))

abbrev pub told_check : Result (Unit {0}) FieldFault → Result (Unit {0}) Said
told_check r = viewed (λ x. x) field_refusal r

abbrev pub told_parts : Result Parts FieldFault → Result Fields Said
told_parts r = viewed view field_refusal r
