-- What an envelope holds: its numbers, and its parts as bytes with their places.
use Rattle.std.specs.Prelude.{ℕ, List}
use Rattle.envelope.specs.declared.parts.Part.{Part}
use Rattle.envelope.specs.declared.parts.Parts.{Parts}
use Rattle.envelope.specs.declared.parts.Kind.{Kind}
use Rattle.envelope.specs.declared.parts.Kind.TheVariants as kind
use Rattle.envelope.specs.declared.parts.Envelope.{Envelope}
use Rattle.envelope.specs.declared.parts.Envelope.TheVariants.{Message, Status}

-- bytes of a record, and the offset of the first
pub record Seen : Type 0 where
  pub bytes : List ℕ
  pub at : ℕ

pub record Fields : Type 0 where
  pub todt : ℕ
  pub to : ℕ
  pub ar : ℕ
  pub vb : ℕ
  pub on : Seen
  pub fr : Seen
  pub ad : Seen
  pub df : Seen
  pub ct : Seen
  pub rest : Seen

-- all that a record says: its kind, its code and the other fields
pub record Whole : Type 0 where
  pub kind : ℕ
  pub code : ℕ
  pub fields : Fields

abbrev pub whole : ℕ → ℕ → Fields → Whole
whole k c f = record { kind = k; code = c; fields = f }

abbrev pub seen : Part → Seen
seen p = record { bytes = p.bytes.now; at = p.at }

abbrev pub view : Parts → Fields
view p = record {
  todt = p.todt;
  to = p.to;
  ar = p.ar;
  vb = p.vb;
  on = seen p.on;
  fr = seen p.fr;
  ad = seen p.ad;
  df = seen p.df;
  ct = seen p.ct;
  rest = seen p.rest;
}

abbrev pub kind_number : Kind → ℕ
kind_number kind.Message = 1
kind_number kind.Status = 2

abbrev pub held : Envelope → Whole
held (Message p) = whole 1 0 (view p)
held (Status c p) = whole 2 c (view p)
