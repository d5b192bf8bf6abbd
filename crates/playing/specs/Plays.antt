-- What playing a list of calls gives: each call is made where the calls before it left things, with the front of its page as the buffer.
use Rattle.std.specs.Prelude.{◌≡◌, ℕ, List, [], ◌∷◌, ◌++◌, map, length, take, drop, replicate}
use Rattle.message_rows.specs.Messages.{freed_message}
use Rattle.status_rows.specs.Statuses.{freed_status}
use Rattle.relay.specs.States.{fresh}
use Rattle.connections.specs.declared.connections.Slot.TheVariants.{Closed}
use Rattle.player.specs.declared.call.Call.{Call}
use Rattle.player.specs.Answers.{answer_of}
use Rattle.player.specs.Steps.{World, world, Stepped, stepped, after}
use Rattle.player.specs.Runs.{Event, event}
use Rattle.playing.specs.declared.entry.Entry.{Entry}
use Rattle.playing.specs.Logs.{front_of}

-- a new relay at this address over these places, no connection admitted, and ledgers of so many freed rows
abbrev pub begun : List ℕ → List (List ℕ) → ℕ → ℕ → World
begun address places messages statuses = world (fresh address places) (replicate 64 Closed) (replicate messages freed_message) (replicate statuses freed_status)

-- what a call gave, and behind its buffer the rest of the page
abbrev pub paged : Stepped → List ℕ → Stepped
paged s rest = after s.told s.world (s.buffer ++ rest)

-- a call made with the front of a page: its answer, the world after it, and the whole page
abbrev pub entered : World → Call → List ℕ → Stepped
entered w c page = paged (stepped w c (take (front_of c) page)) (drop (front_of c) page)

-- the world after the calls, over the pages of a log
abbrev pub left_by : World → List Call → List Entry → World
left_by w [] log = w
left_by w (c ∷ cs) [] = w
left_by w (c ∷ cs) (e ∷ es) = left_by (entered w c e.page).world cs es

-- the calls with their answers and pages
abbrev pub log_of : World → List Call → List Entry → List Event
log_of w [] log = []
log_of w (c ∷ cs) [] = []
log_of w (c ∷ cs) (e ∷ es) =
    event c (entered w c e.page).told (entered w c e.page).buffer ∷ log_of (entered w c e.page).world cs es

-- an entry with its whole page
abbrev pub shown : Entry → Event
shown e = event e.call (answer_of e.told) e.page

-- from the world w the calls were played over the log `old`: they left the world w' and the log `new`
pub record Played (w : World) (calls : List Call) (old new : List Entry) (w' : World) : Type 0 where
  pub left : w' ≡ left_by w calls old
  pub entries : map shown (take (length calls) new) ≡ log_of w calls old
  pub rest : drop (length calls) new ≡ drop (length calls) old
