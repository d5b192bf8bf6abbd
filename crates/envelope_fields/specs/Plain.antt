-- The fields of an envelope as numbers and texts, with no places.
use Rattle.std.specs.Prelude.{ℕ, List}
use Rattle.std.specs.Borrow.{Bor}
use Rattle.envelope.specs.Views.{Whole}
use Rattle.envelope_fields.specs.declared.fields.Content.{Content}
use Rattle.envelope_fields.specs.declared.fields.Content.TheVariants.{Message, Status}
use Rattle.envelope_fields.specs.declared.fields.FieldsOf.{FieldsOf}

pub record Plain : Type 0 where
  pub kind : ℕ
  pub code : ℕ
  pub todt : ℕ
  pub to : ℕ
  pub ar : ℕ
  pub vb : ℕ
  pub on : List ℕ
  pub fr : List ℕ
  pub ad : List ℕ
  pub df : List ℕ
  pub ct : List ℕ
  pub rest : List ℕ

abbrev pub content_kind : Content → ℕ
content_kind Message = 1
content_kind (Status c) = 2

abbrev pub content_code : Content → ℕ
content_code Message = 0
content_code (Status c) = c

-- the fields, with the bytes that each text is seen as
abbrev pub plain_by : {T : Type 0} → (T → List ℕ) → FieldsOf T → Plain
plain_by bytes f = record {
  kind = content_kind f.content;
  code = content_code f.content;
  todt = f.todt;
  to = f.to;
  ar = f.ar;
  vb = f.vb;
  on = bytes f.on;
  fr = bytes f.fr;
  ad = bytes f.ad;
  df = bytes f.df;
  ct = bytes f.ct;
  rest = bytes f.rest;
}

abbrev pub plain : FieldsOf (Bor (List ℕ)) → Plain
plain f = plain_by (λ t. t.now) f

-- what was read, without the places
abbrev pub plain_of : Whole → Plain
plain_of w = record {
  kind = w.kind;
  code = w.code;
  todt = w.fields.todt;
  to = w.fields.to;
  ar = w.fields.ar;
  vb = w.fields.vb;
  on = w.fields.on.bytes;
  fr = w.fields.fr.bytes;
  ad = w.fields.ad.bytes;
  df = w.fields.df.bytes;
  ct = w.fields.ct.bytes;
  rest = w.fields.rest.bytes;
}
