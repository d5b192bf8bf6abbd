-- The place that comes first by a time, then by its number.
use Rattle.std.specs.Prelude.{◌≡◌, ℕ, ◌+◌, ◌<◌, ◌≤◌, Bool, true, cond, List, [], ◌∷◌, length, Some, None, Option, nat_le, slice_index_or}
use Rattle.standing.specs.declared.standing.Standing.{Standing}
use Rattle.standing.specs.declared.standing.Standing.TheVariants.{Free}
use Rattle.searches.specs.declared.search.Found.{Found}
use Rattle.searches.specs.Searches.{due_at, inbox_since, notice_since}

-- what is looked for: a live waiting envelope that is due at a time, an entry of the inbox, or a notice
pub data Wanted : Type 0 where
  Due : ℕ → Wanted
  Entry : Wanted
  Notified : Wanted

-- the time by which a search orders, at a standing that it looks for
abbrev pub time_of : Wanted → Standing → Option ℕ
time_of (Due t) s = due_at t s
time_of Entry s = inbox_since s
time_of Notified s = notice_since s

abbrev pub no_later : ℕ → Option Found → Bool
no_later time None = true
no_later time (Some found) = nat_le time found.time

-- the place i with its time, unless it has none or what was found above it is earlier
abbrev pub earlier : ℕ → Option ℕ → Option Found → Option Found
earlier i None rest = rest
earlier i (Some time) rest = cond (no_later time rest) (Some (record { place = i; time = time })) rest

-- of the places of ss, numbered from i, where h gives a time, the one with the least time, then the lowest
abbrev pub earliest_by : (Standing → Option ℕ) → ℕ → List Standing → Option Found
earliest_by h i [] = None
earliest_by h i (s ∷ ss) = earlier i (h s) (earliest_by h (i + 1) ss)

-- the same for what is looked for
abbrev pub earliest : Wanted → ℕ → List Standing → Option Found
earliest w i ss = earliest_by (time_of w) i ss

-- a call gives what h gives
abbrev pub Computes : (Standing → Option ℕ → Type 0) → (Standing → Option ℕ) → Type 0
Computes gives h = (s : Standing) (time : Option ℕ) → gives s time → time ≡ h s

-- of two that were found, the one with the earlier time, the first where both have the same
abbrev pub sooner : Found → Found → Found
sooner first second = cond (nat_le first.time second.time) first second

-- place k of ss is one that is looked for, with this time
abbrev pub Wants : Wanted → List Standing → ℕ → ℕ → Type 0
Wants w ss k time = (k < length ss) × (time_of w (slice_index_or ss k Free) ≡ Some time)

-- found is a place that is looked for, and none goes before it by time or, at the same time, by number; none is found where
-- there is none
abbrev pub FirstOf : Wanted → List Standing → Option Found → Type 0
FirstOf w ss None = (k time : ℕ) → Wants w ss k time → ⊥
FirstOf w ss (Some found) =
    Wants w ss found.place found.time
    × ((k time : ℕ) → Wants w ss k time → (found.time ≤ time) × (found.time ≡ time → found.place ≤ k))
