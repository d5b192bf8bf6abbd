-- What the calls need to know of an envelope, apart from its bytes.
use Rattle.std.specs.Prelude.{Bool, cond, ◌&&◌, eqb, leb, ltb, length}
use Rattle.envelope.specs.Views.{Whole, Fields}
use Rattle.envelope.specs.Life.{end_of}
use Rattle.envelope.specs.declared.parts.Kind.{Kind}
use Rattle.envelope.specs.declared.parts.Kind.TheVariants.{Message, Status}
use Rattle.routing.specs.declared.row.Way.{Way}
use Rattle.standing.specs.declared.standing.About.{About}

abbrev pub kind_of : Whole → Kind
kind_of w = cond (eqb w.kind 1) Message Status

-- there are contacts, and the verbosity asks at least for errors
abbrev pub is_notified : Fields → Bool
is_notified f = ltb 0 (length f.ct.bytes) && leb 1 f.vb

-- of an envelope whose reports go this way back
abbrev pub about_of : Whole → Way → About
about_of w back = record {
  kind = kind_of w;
  end = end_of w;
  timeout = w.fields.to;
  receipt = eqb w.fields.ar 1;
  notify = is_notified w.fields;
  back = back;
}
