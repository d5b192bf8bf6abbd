-- A run of the program: what is written and counted for each line.
use Rattle.std.specs.Prelude.{◌≡◌, ℕ, ◌+◌, min, List, [], Some, None, vec_items, Option}
use Rattle.answers.specs.Answers.{ToldAnswer, written, told, chosen, explained, refused, error, answer_onto}
use Rattle.answers.specs.declared.counts.Counts.{Counts}
use Rattle.arguments.specs.declared.fault.LineFault.TheVariants.{TooLong}
use Rattle.routing.specs.declared.row.RouteRow.{RouteRow}
use Rattle.service.specs.Replies.{line_reply, line_rows}
use Rattle.service.specs.declared.service.Service.{Service}
use Rattle.service.specs.declared.tell.Outcome.{Outcome}
use Rattle.service.specs.declared.tell.Outcome.TheVariants.{Silent, Answered, Refused, Mistaken}

-- how a reply counts
abbrev pub outcome_of : ToldAnswer → Outcome
outcome_of (written bs) = Answered
outcome_of (told w) = Answered
outcome_of (chosen way) = Answered
outcome_of (explained r) = Answered
outcome_of (refused v s) = Refused
outcome_of (error f) = Mistaken

abbrev pub outcome : Option ToldAnswer → Outcome
outcome None = Silent
outcome (Some a) = outcome_of a

-- out with the reply to line n, if there is one
abbrev pub reply_onto : List ℕ → ℕ → Option ToldAnswer → List ℕ
reply_onto out n None = out
reply_onto out n (Some a) = answer_onto out n a

-- what telling a reply leaves: the bytes, and how it counts
abbrev pub Tells : List ℕ → ℕ → Option ToldAnswer → List ℕ → Outcome → Type 0
Tells before n reply after how = (after ≡ reply_onto before n reply) × (how ≡ outcome reply)

-- counters stop at the greatest number of 64 bits
abbrev pub more : ℕ → ℕ
more n = min (n + 1) 18446744073709551615

-- every line is counted as one, and a refusal or an error as such
abbrev pub counted : Outcome → Counts → Counts
counted Silent c = record { lines = more c.lines; calls = c.calls; refused = c.refused; errors = c.errors }
counted Answered c = record { lines = more c.lines; calls = c.calls; refused = c.refused; errors = c.errors }
counted Refused c = record { lines = more c.lines; calls = c.calls; refused = more c.refused; errors = c.errors }
counted Mistaken c = record { lines = more c.lines; calls = c.calls; refused = c.refused; errors = more c.errors }

-- what a run keeps from line to line
pub record Kept : Type 0 where
  pub routes : List RouteRow
  pub counts : Counts

abbrev pub kept : Service → Kept
kept s = record { routes = vec_items s.routes; counts = s.counts }

abbrev pub none : Counts
none = record { lines = 0; calls = 0; refused = 0; errors = 0 }

abbrev pub started : Kept
started = record { routes = []; counts = none }

-- after a line: its reply is written, its rows are kept, and it is counted
abbrev pub kept_after : Kept → List ℕ → Kept
kept_after k line = record { routes = line_rows k.routes line; counts = counted (outcome (line_reply k.routes line)) k.counts }

abbrev pub written_after : Kept → List ℕ → List ℕ → List ℕ
written_after k line out = reply_onto out (more k.counts.lines) (line_reply k.routes line)

-- after a line that is too long to be a call
abbrev pub kept_after_long : Kept → Kept
kept_after_long k = record { routes = k.routes; counts = counted Mistaken k.counts }

abbrev pub written_after_long : Kept → List ℕ → List ℕ
written_after_long k out = answer_onto out (more k.counts.lines) (error TooLong)
