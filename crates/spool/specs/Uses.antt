-- What the code over every spool does.
use Rattle.std.specs.Prelude.{ℕ, cond, ◌&&◌, List, [], length, replicate, Ok, Err, Result, nat_le}
use Rattle.spool.specs.declared.fault.SpoolFault.{SpoolFault}
use Rattle.spool.specs.declared.fault.SpoolFault.TheVariants.{NoPlace, Unstorable, ShortBuffer}
use Rattle.spool.specs.Meaning.{is_place, storable, over_front}

-- as many places, each empty
abbrev pub emptied : List (List ℕ) → List (List ℕ)
emptied m = replicate (length m) []

-- of bytes that are stored and fetched again: how many come back
abbrev pub return_answer : ℕ → List ℕ → List ℕ → List (List ℕ) → Result ℕ SpoolFault
return_answer p bs buf m =
    cond (is_place p m)
    (cond (storable (length bs)) (cond (nat_le (length bs) (length buf)) (Ok (length bs)) (Err ShortBuffer)) (Err Unstorable))
    (Err NoPlace)

-- the buffer with those bytes in front
abbrev pub returned : ℕ → List ℕ → List ℕ → List (List ℕ) → List ℕ
returned p bs buf m =
    cond (is_place p m && (storable (length bs) && nat_le (length bs) (length buf))) (over_front bs buf) buf
