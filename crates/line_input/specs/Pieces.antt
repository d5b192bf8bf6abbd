-- A line that comes in pieces.
use Rattle.std.specs.Prelude.{ℕ, ◌+◌, Bool, true, cond, not, List, length, take, nat_lt}
use Rattle.words.specs.Cuts.{len_before}
use Rattle.line_input.specs.Kept.{fits, kept_line}
use Rattle.line_input.specs.declared.input.Got.{Got}
use Rattle.line_input.specs.declared.input.Got.TheVariants.{Line, Long, End}
use Rattle.line_input.specs.declared.piece.Came.{Came}
use Rattle.line_input.specs.declared.piece.Came.TheVariants.{Nothing, Short, Over}
use Rattle.std.specs.declared.ops.ControlFlow.TheVariants.{Continue, Break}
use Rattle.line_input.specs.declared.piece.Look.{Look}

abbrev pub got_of : Bool → Got
got_of over = cond over Long Line

abbrev pub came_of : Bool → Came
came_of over = cond over Over Short

-- what the end of the input makes of a line
abbrev pub got_at_end : Came → Got
got_at_end Nothing = End
got_at_end Short = Line
got_at_end Over = Long

-- a line that is too long stays so; another becomes so by bytes that do not fit
abbrev pub over_after : ℕ → Came → List ℕ → List ℕ → Bool
over_after limit Nothing line bs = not (fits limit line bs)
over_after limit Short line bs = not (fits limit line bs)
over_after limit Over line bs = true

-- a line that is too long takes in nothing more
abbrev pub kept_after : ℕ → Came → List ℕ → List ℕ → List ℕ
kept_after limit Nothing line bs = kept_line limit line bs
kept_after limit Short line bs = kept_line limit line bs
kept_after limit Over line bs = line

-- what stands before the first line feed (10)
abbrev pub before_break : List ℕ → List ℕ
before_break held = take (len_before 10 held) held

-- a line feed is among these
abbrev pub has_break : List ℕ → Bool
has_break held = nat_lt (len_before 10 held) (length held)

-- a line feed is spent with the line, and ends it
abbrev pub look_of : ℕ → Came → List ℕ → List ℕ → Look
look_of limit came line held =
    cond (has_break held)
    (record { spent = len_before 10 held + 1; next = Break (got_of (over_after limit came line (before_break held))) })
    (record { spent = len_before 10 held; next = Continue (came_of (over_after limit came line (before_break held))) })

abbrev pub line_after : ℕ → Came → List ℕ → List ℕ → List ℕ
line_after limit came line held = kept_after limit came line (before_break held)
