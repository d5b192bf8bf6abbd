-- What a record says that the laws speak of: its kind, its expiry, and which records are alike.
use Rattle.std.specs.Prelude.{ℕ, Bool, false, ◌&&◌, List, Ok, Err, Result, ◌==◌}
use Rattle.text.specs.Said.{Said}
use Rattle.text.specs.Forms.{same_text}
use Rattle.envelope.specs.Views.{Whole}
use Rattle.envelope.specs.Life.{end_of}
use Rattle.envelope.specs.Decoding.{decode}

-- 1 a message, 2 a status, 0 what is no record
abbrev pub kind_read : Result Whole Said → ℕ
kind_read (Ok w) = w.kind
kind_read (Err refusal) = 0

abbrev pub kind_in : List ℕ → ℕ
kind_in rec = kind_read (decode rec)

abbrev pub is_message : List ℕ → Bool
is_message rec = kind_in rec == 1

abbrev pub is_status : List ℕ → Bool
is_status rec = kind_in rec == 2

abbrev pub end_read : Result Whole Said → ℕ
end_read (Ok w) = end_of w
end_read (Err refusal) = 0

-- the second at which the envelope of a record is no longer live
abbrev pub end_in : List ℕ → ℕ
end_in rec = end_read (decode rec)

abbrev pub alike_read : Result Whole Said → Result Whole Said → Bool
alike_read (Ok a) (Ok b) = same_text a.fields.fr.bytes b.fields.fr.bytes && same_text a.fields.on.bytes b.fields.on.bytes
alike_read (Ok a) (Err refusal) = false
alike_read (Err refusal) b = false

-- the same sender and operation number, but for the case of letters
abbrev pub alike : List ℕ → List ℕ → Bool
alike a b = alike_read (decode a) (decode b)
