-- The fields of an envelope by keyed words.
use Rattle.std.specs.Prelude.{ℕ, cond, ◌||◌, List, [], ◌∷◌, Some, None, Ok, Err, Vec, vec_items, codes, Option, Result}
use Rattle.words.specs.Cuts.{key_value_of}
use Rattle.arguments.specs.Values.{number_argument, text_argument}
use Rattle.arguments.specs.declared.fault.LineFault.{LineFault}
use Rattle.arguments.specs.declared.fault.LineFault.TheVariants.{WrongWords}
use Rattle.envelope.specs.Results.{and_then}
use Rattle.envelope.specs.declared.parts.Kind.{Kind}
use Rattle.envelope.specs.declared.parts.Kind.TheVariants.{Message, Status}
use Rattle.envelope_fields.specs.Plain.{Plain, plain_by}
use Rattle.envelope_fields.specs.declared.fields.FieldsOf.{FieldsOf}
use Rattle.keyed.specs.Keys.{has_key, find}
use Rattle.keyed.specs.Shapes.{is_shape}

-- the greatest number that a word's field takes, where its value is a number
abbrev pub width_of : List ℕ → Option ℕ
width_of w =
    cond (has_key (codes "todt") w) (Some 4294967295)
    (cond (has_key (codes "to") w || has_key (codes "code") w) (Some 65535)
    (cond (has_key (codes "ar") w || has_key (codes "vb") w) (Some 255) None))

-- what stands after the first `=`
abbrev pub second_side : Option (List ℕ × List ℕ) → List ℕ
second_side (Some sides) = sides.1
second_side None = []

abbrev pub value_of : List ℕ → List ℕ
value_of w = second_side (key_value_of w)

-- whether a value can be read, and not what it is
abbrev pub readable : {A : Type 0} → Result A LineFault → Result (Unit {0}) LineFault
readable (Ok x) = Ok tt
readable (Err f) = Err f

abbrev pub checked_by : List ℕ → Option ℕ → Result (Unit {0}) LineFault
checked_by value (Some most) = readable (number_argument most value)
checked_by value None = readable (text_argument value)

abbrev pub checked_word : List ℕ → Result (Unit {0}) LineFault
checked_word w = checked_by (value_of w) (width_of w)

-- from left to right, the first word that is wrong
abbrev pub checked_words : List (List ℕ) → Result (Unit {0}) LineFault
checked_words [] = Ok tt
checked_words (w ∷ ws) = and_then (checked_word w) (λ _. checked_words ws)

-- a value, or what stands for one that is left out or cannot be read
abbrev pub ok_or : {A : Type 0} → A → Result A LineFault → A
ok_or d (Ok x) = x
ok_or d (Err f) = d

abbrev pub number_for : ℕ → ℕ → Option (List ℕ) → ℕ
number_for most d (Some value) = ok_or d (number_argument most value)
number_for most d None = d

abbrev pub text_for : Option (List ℕ) → List ℕ
text_for (Some value) = ok_or [] (text_argument value)
text_for None = []

-- the code and the rest, by the keys that the kind has
abbrev pub code_for : Kind → List (List ℕ) → ℕ
code_for Message ws = 0
code_for Status ws = number_for 65535 0 (find (codes "code") ws)

abbrev pub kind_for : Kind → ℕ
kind_for Message = 1
kind_for Status = 2

abbrev pub rest_key : Kind → List ℕ
rest_key Message = codes "body"
rest_key Status = codes "text"

abbrev pub fields_for : Kind → List (List ℕ) → Plain
fields_for k ws = record {
  kind = kind_for k;
  code = code_for k ws;
  todt = number_for 4294967295 0 (find (codes "todt") ws);
  to = number_for 65535 60 (find (codes "to") ws);
  ar = number_for 255 0 (find (codes "ar") ws);
  vb = number_for 255 1 (find (codes "vb") ws);
  on = text_for (find (codes "on") ws);
  fr = text_for (find (codes "fr") ws);
  ad = text_for (find (codes "ad") ws);
  df = text_for (find (codes "df") ws);
  ct = text_for (find (codes "ct") ws);
  rest = text_for (find (rest_key k) ws);
}

-- first the shape of all words, then each word from left to right
abbrev pub fields_of : Kind → List (List ℕ) → Result Plain LineFault
fields_of k ws = cond (is_shape k ws) (and_then (checked_words ws) (λ _. Ok (fields_for k ws))) (Err WrongWords)

-- what the fields of a line hold
abbrev pub field_text : {A : Type 0} → FieldsOf (Vec ℕ A) → Plain
field_text f = plain_by vec_items f
