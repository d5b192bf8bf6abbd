-- Answers that are a value or a refusal.
use Rattle.std.specs.Prelude.{Some, None, Ok, Err, Option, Result}

-- each side of an answer by a view of its own
abbrev pub viewed : {A B E F : Type 0} → (A → B) → (E → F) → Result A E → Result B F
viewed f g (Ok x) = Ok (f x)
viewed f g (Err e) = Err (g e)

-- go on with a value, and keep a refusal
abbrev pub and_then : {A B E : Type 0} → Result A E → (A → Result B E) → Result B E
and_then (Ok x) f = f x
and_then (Err e) f = Err e

-- x, unless there is a refusal
abbrev pub unless : {A E : Type 0} → Option E → A → Result A E
unless None x = Ok x
unless (Some refusal) x = Err refusal
