-- What a spool does. It is seen as one list of bytes for each place, empty where the place is.
use Rattle.std.specs.Prelude.{ℕ, Bool, cond, ◌&&◌, List, [], ◌++◌, length, drop, Ok, Err, Result, nat_le, nat_lt, slice_index_or, slice_set}
use Rattle.spool.specs.declared.fault.SpoolFault.{SpoolFault}
use Rattle.spool.specs.declared.fault.SpoolFault.TheVariants.{NoPlace, Unstorable, ShortBuffer}

-- there is such a place
abbrev pub is_place : ℕ → List (List ℕ) → Bool
is_place p m = nat_lt p (length m)

-- the bytes at a place
abbrev pub at : ℕ → List (List ℕ) → List ℕ
at p m = slice_index_or m p []

-- a place takes so many bytes
abbrev pub storable : ℕ → Bool
storable n = nat_le 1 n && nat_le n 2048

abbrev pub length_answer : ℕ → List (List ℕ) → Result ℕ SpoolFault
length_answer p m = cond (is_place p m) (Ok (length (at p m))) (Err NoPlace)

abbrev pub store_answer : ℕ → List ℕ → List (List ℕ) → Result (Unit {0}) SpoolFault
store_answer p bs m = cond (is_place p m) (cond (storable (length bs)) (Ok tt) (Err Unstorable)) (Err NoPlace)

-- the place holds the bytes, and every other what it held
abbrev pub stored : ℕ → List ℕ → List (List ℕ) → List (List ℕ)
stored p bs m = cond (is_place p m && storable (length bs)) (slice_set m p bs) m

abbrev pub clear_answer : ℕ → List (List ℕ) → Result (Unit {0}) SpoolFault
clear_answer p m = cond (is_place p m) (Ok tt) (Err NoPlace)

abbrev pub cleared : ℕ → List (List ℕ) → List (List ℕ)
cleared p m = cond (is_place p m) (slice_set m p []) m

-- bytes written over the front of a buffer
abbrev pub over_front : List ℕ → List ℕ → List ℕ
over_front bs buf = bs ++ drop (length bs) buf

abbrev pub copy_answer : ℕ → List ℕ → List (List ℕ) → Result ℕ SpoolFault
copy_answer p buf m =
    cond (is_place p m)
    (cond (nat_le (length (at p m)) (length buf)) (Ok (length (at p m))) (Err ShortBuffer))
    (Err NoPlace)

abbrev pub copied : ℕ → List ℕ → List (List ℕ) → List ℕ
copied p buf m = cond (is_place p m && nat_le (length (at p m)) (length buf)) (over_front (at p m) buf) buf
