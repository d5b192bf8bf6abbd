-- The account: what an observer books of the calls and their answers, with nothing of the relay's inside.
use Rattle.std.specs.Prelude.{ℕ, ◌+◌, max, Bool, cond, List, [], ◌∷◌, ◌==◌}
use Rattle.std.specs.Str.{bytes_eq}
use Rattle.envelope.specs.declared.parts.Kind.TheVariants.{Message, Status}
use Rattle.account.specs.Records.{is_message}
use Rattle.account.specs.Deeds.{Whereabouts, Deed}
use Rattle.account.specs.Deeds.Deed.{nothing, taken_in, turned, passed_on, reported, collected, noticed, dropped}

-- a message that was taken in: its record, when and where, where it is now unless it has ended, and how often it has ended
pub record Booked : Type 0 where
  pub rec : List ℕ
  pub at : ℕ
  pub place : ℕ
  pub stand : Whereabouts
  pub ends : ℕ

-- of statuses and reports the account keeps numbers
pub record Counts : Type 0 where
  pub taken : ℕ
  pub reported : ℕ
  pub passed_on : ℕ
  pub collected : ℕ
  pub noticed : ℕ
  pub dropped : ℕ

-- the messages taken in, the last one first
pub record Account : Type 0 where
  pub time : ℕ
  pub booked : List Booked
  pub counts : Counts

abbrev pub none : Counts
none = record { taken = 0; reported = 0; passed_on = 0; collected = 0; noticed = 0; dropped = 0 }

abbrev pub empty : Account
empty = record { time = 0; booked = []; counts = none }

-- changes the one last booked of those that fit
unfoldable pub change : (Booked → Bool) → (Booked → Booked) → List Booked → List Booked
change fits u [] = []
change fits u (b ∷ bs) = cond (fits b) (u b ∷ bs) (b ∷ change fits u bs)

abbrev pub at_place : ℕ → Booked → Bool
at_place p b = b.place == p

abbrev pub with_bytes : List ℕ → Booked → Bool
with_bytes rec b = bytes_eq b.rec rec

-- one end more
abbrev pub end : Booked → Booked
end b = record { rec = b.rec; at = b.at; place = b.place; stand = b.stand; ends = b.ends + 1 }

-- it is elsewhere now, unless it has ended
abbrev pub turn : Whereabouts → Booked → Booked
turn w b = record { rec = b.rec; at = b.at; place = b.place; stand = cond (b.ends == 0) w b.stand; ends = b.ends }

abbrev pub fresh : List ℕ → ℕ → ℕ → Whereabouts → Booked
fresh rec time p w = record { rec = rec; at = time; place = p; stand = w; ends = 0 }

abbrev pub with_booked : Account → List Booked → Account
with_booked a booked = record { time = a.time; booked = booked; counts = a.counts }

abbrev pub with_counts : Account → Counts → Account
with_counts a counts = record { time = a.time; booked = a.booked; counts = counts }

abbrev pub one_taken : Counts → Counts
one_taken c = record { taken = c.taken + 1; reported = c.reported; passed_on = c.passed_on; collected = c.collected; noticed = c.noticed; dropped = c.dropped }

abbrev pub one_reported : Counts → Counts
one_reported c = record { taken = c.taken; reported = c.reported + 1; passed_on = c.passed_on; collected = c.collected; noticed = c.noticed; dropped = c.dropped }

abbrev pub one_passed_on : Counts → Counts
one_passed_on c = record { taken = c.taken; reported = c.reported; passed_on = c.passed_on + 1; collected = c.collected; noticed = c.noticed; dropped = c.dropped }

abbrev pub one_collected : Counts → Counts
one_collected c = record { taken = c.taken; reported = c.reported; passed_on = c.passed_on; collected = c.collected + 1; noticed = c.noticed; dropped = c.dropped }

abbrev pub one_noticed : Counts → Counts
one_noticed c = record { taken = c.taken; reported = c.reported; passed_on = c.passed_on; collected = c.collected; noticed = c.noticed + 1; dropped = c.dropped }

abbrev pub one_dropped : Counts → Counts
one_dropped c = record { taken = c.taken; reported = c.reported; passed_on = c.passed_on; collected = c.collected; noticed = c.noticed; dropped = c.dropped + 1 }

-- a clock reading: the account's time is the greatest so far
abbrev pub clocked : Account → ℕ → Account
clocked a clock = record { time = max a.time clock; booked = a.booked; counts = a.counts }

-- a message is booked, a status is counted
abbrev pub book_taken_in : Account → List ℕ → ℕ → Whereabouts → Account
book_taken_in a rec p w =
    cond (is_message rec) (with_booked a (fresh rec a.time p w ∷ a.booked)) (with_counts a (one_taken a.counts))

-- what was done, at the account's time
abbrev pub book : Account → Deed → Account
book a nothing = a
book a (taken_in rec p w) = book_taken_in a rec p w
book a (turned p w) = with_booked a (change (at_place p) (turn w) a.booked)
book a (passed_on Message p) = with_booked a (change (at_place p) end a.booked)
book a (passed_on Status p) = with_counts a (one_passed_on a.counts)
book a (reported p) = record { time = a.time; booked = change (at_place p) end a.booked; counts = one_reported a.counts }
book a (collected Message rec) = with_booked a (change (with_bytes rec) end a.booked)
book a (collected Status rec) = with_counts a (one_collected a.counts)
book a (noticed Message) = a
book a (noticed Status) = with_counts a (one_noticed a.counts)
book a (dropped Message) = a
book a (dropped Status) = with_counts a (one_dropped a.counts)
