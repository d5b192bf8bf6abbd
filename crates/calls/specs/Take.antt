-- A verb's words, where their number is right.
use Rattle.std.specs.Prelude.{ℕ, cond, List, [], length, Ok, Err, Result, ◌==◌, slice_index_or}
use Rattle.envelope.specs.Results.{and_then}
use Rattle.arguments.specs.declared.fault.LineFault.{LineFault}
use Rattle.arguments.specs.declared.fault.LineFault.TheVariants.{WrongWords}

-- the words, where they are n
abbrev pub taken : ℕ → List (List ℕ) → Result (List (List ℕ)) LineFault
taken n ws = cond (length ws == n) (Ok ws) (Err WrongWords)

abbrev pub one : List (List ℕ) → Result (List ℕ) LineFault
one ws = and_then (taken 1 ws) (λ xs. Ok (slice_index_or xs 0 []))

abbrev pub two : List (List ℕ) → Result (List ℕ × List ℕ) LineFault
two ws = and_then (taken 2 ws) (λ xs. Ok (slice_index_or xs 0 [], slice_index_or xs 1 []))

abbrev pub three : List (List ℕ) → Result (List ℕ × List ℕ × List ℕ) LineFault
three ws = and_then (taken 3 ws) (λ xs. Ok (slice_index_or xs 0 [], slice_index_or xs 1 [], slice_index_or xs 2 []))
