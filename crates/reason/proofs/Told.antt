-- What is true of the reason that is told.
use Rattle.std.proofs.Common.{◌≡◌, ℕ, ◌+◌, Bool, true, false, cond, eqb, List, length, IfSome, IfOk, Some, None, Ok, Err, Option, Result, sym, refl, ap, ◌∙◌, subst, arith}
use Rattle.std.proofs.lemmas.Bool.{eqb-true, eqb-false}
use Rattle.std.proofs.lemmas.List.{nil_from_length}
use Rattle.text.specs.Said.{Said}
use Rattle.envelope.specs.Views.{Seen, Whole}
use Rattle.envelope.specs.Lawful.{PartOf}
use Rattle.envelope.specs.Decoding.{decode_kind, decode}
use Rattle.envelope.specs.declared.fault.RecordFault.{RecordFault}
use Rattle.envelope.proofs.Oks.{ok_cond, ok_then}
use Rattle.envelope_reading.proofs.Laws.{laws}
use Rattle.reason.specs.declared.answer.Reason.{Reason}
use Rattle.reason.specs.Sheets.{text_of, First}
use Rattle.reason.specs.Reasons.{ToldReason, of_record, told, told_answer, or_own, own_or_line, reason_of, Within, Reasoned, own, line, none, OfStatus}
use Rattle.reason.proofs.Lines.{first_is, line_part}

module _ (rec sheet : List ℕ) where
  module _ (w : Whole) (end : w.fields.rest.at + length w.fields.rest.bytes ≡ length rec) where
    -- by whether the status has a text of its own, and whether the sheet has a line
    reasoned_by : (b : Bool) (o : Option Seen) → eqb (length w.fields.rest.bytes) 0 ≡ b → First sheet w.code 0 o
        → Reasoned rec sheet w (cond b (or_own w.fields.rest o) (of_record w.fields.rest))
    reasoned_by false o e f = own (let n = eqb-false (length w.fields.rest.bytes) 0 e in omega arith)
    reasoned_by true (Some text) e f = line (nil_from_length w.fields.rest.bytes (eqb-true (length w.fields.rest.bytes) 0 e)) f
    reasoned_by true None e f =
        let z = eqb-true (length w.fields.rest.bytes) 0 e in
        let n = nil_from_length w.fields.rest.bytes z in
        let a : length rec ≡ w.fields.rest.at = omega arith in
        subst (λ x. Reasoned rec sheet w (of_record x)) (λ i. record { bytes = sym n i; at = a i }) (none n f)

  within_by : (b : Bool) (mine : Seen) (o : Option Seen) → PartOf rec mine → IfSome o (PartOf sheet) → Within rec sheet (cond b (or_own mine o) (of_record mine))
  within_by false mine o p q = p
  within_by true mine None p q = p
  within_by true mine (Some text) p q = q

  -- a reason comes of a status that was read
  record Comes (t : ToldReason) : Type 0 where
    pub whole : Whole
    pub status : ◌≡◌ {A = Result ℕ Said} (decode_kind rec) (Ok 2)
    pub decoded : ◌≡◌ {A = Result Whole Said} (decode rec) (Ok whole)
    pub is : own_or_line sheet whole.code whole.fields.rest ≡ t

  comes : (t : ToldReason) → ◌≡◌ {A = Result ToldReason Said} (reason_of rec sheet) (Ok t) → Comes t
  comes t e =
      let k = ok_then (decode_kind rec) _ t e in
      let s = ok_cond (eqb k.0 2) _ _ t k.2 in
      let d = ok_then (decode rec) _ t s.1 in
      record { whole = d.0; status = k.1 ∙ ap Ok (eqb-true k.0 2 s.0); decoded = d.1; is = (let h = d.2 in cc) }

  pub of_status_lem : (t : ToldReason) → ◌≡◌ {A = Result ToldReason Said} (reason_of rec sheet) (Ok t) → OfStatus rec sheet t
  of_status_lem t e =
      let c = comes t e in
      let w = c.whole in
      let end = (laws rec w c.decoded).placed.rest_end in
      record {
        whole = w;
        status = c.status;
        decoded = c.decoded;
        reasoned = subst (Reasoned rec sheet w) c.is (reasoned_by w end (eqb (length w.fields.rest.bytes) 0) (text_of sheet w.code) refl (first_is sheet w.code));
      }

  pub within : (t : ToldReason) → ◌≡◌ {A = Result ToldReason Said} (reason_of rec sheet) (Ok t) → Within rec sheet t
  within t e =
      let c = comes t e in
      let w = c.whole in
      subst (Within rec sheet) c.is (within_by (eqb (length w.fields.rest.bytes) 0) w.fields.rest (text_of sheet w.code) (laws rec w c.decoded).placed.rest (line_part sheet w.code))

  pub told_made : (P : ToldReason → Type 0) → ((t : ToldReason) → ◌≡◌ {A = Result ToldReason Said} (reason_of rec sheet) (Ok t) → P t)
      → (r : Result Reason RecordFault) → told_answer r ≡ reason_of rec sheet → IfOk r (λ x. P (told x))
  told_made P h (Ok x) e = h (told x) (sym e)
  told_made P h (Err f) e = tt
