-- The line that tells an envelope field by field.
use Rattle.std.specs.Prelude.{ℕ, cond, List, [], ◌∷◌, ◌++◌, codes, ◌==◌}
use Rattle.envelope.specs.Views.{Fields, Whole}
use Rattle.answer_pieces.specs.Texts.{keyed_text, keyed_number}

-- every field, in the order of the record
abbrev pub number_groups : Fields → List (List (List ℕ))
number_groups f =
    keyed_number (codes " todt=") f.todt
    ∷ keyed_number (codes " to=") f.to
    ∷ keyed_number (codes " ar=") f.ar
    ∷ keyed_number (codes " vb=") f.vb
    ∷ []

abbrev pub text_groups : Fields → List (List (List ℕ))
text_groups f =
    keyed_text (codes " on=") f.on.bytes
    ∷ keyed_text (codes " fr=") f.fr.bytes
    ∷ keyed_text (codes " ad=") f.ad.bytes
    ∷ keyed_text (codes " df=") f.df.bytes
    ∷ keyed_text (codes " ct=") f.ct.bytes
    ∷ []

-- message FIELDS and status FIELDS, the rest last under the kind's own key
abbrev pub message_groups : Fields → List (List (List ℕ))
message_groups f = (codes "message" ∷ []) ∷ (number_groups f ++ (text_groups f ++ (keyed_text (codes " body=") f.rest.bytes ∷ [])))

abbrev pub status_groups : ℕ → Fields → List (List (List ℕ))
status_groups code f = (codes "status" ∷ []) ∷ (number_groups f ++ (keyed_number (codes " code=") code ∷ (text_groups f ++ (keyed_text (codes " text=") f.rest.bytes ∷ []))))

abbrev pub told_groups : Whole → List (List (List ℕ))
told_groups w = cond (w.kind == 1) (message_groups w.fields) (status_groups w.code w.fields)
