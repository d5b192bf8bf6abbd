-- The laws: what holds between the account and the relay after every run.
use Rattle.std.specs.Prelude.{◌≡◌, ℕ, ◌+◌, ◌<◌, ◌≤◌, Bool, true, cond, ◌⊎◌, List, [], ◌∷◌, length, Some, None, Option}
use Rattle.spool.specs.Meaning.{at}
use Rattle.standing.specs.Standings.{standing_at}
use Rattle.standing.specs.declared.standing.Standing.{Standing}
use Rattle.standing.specs.declared.standing.Standing.TheVariants.{Free, Waiting, Out, Inbox, Notice}
use Rattle.relay.specs.States.{State}
use Rattle.account.specs.Records.{is_message, is_status, alike, end_in}
use Rattle.account.specs.Deeds.{Whereabouts}
use Rattle.account.specs.Deeds.Whereabouts.{waiting, out, inbox}
use Rattle.account.specs.Accounts.{Booked, Account, Counts}

-- each of a list; some one of a list; each pair of a list, the later booked first
unfoldable pub All : (Booked → Type 0) → List Booked → Type 0
All P [] = Unit {0}
All P (b ∷ bs) = P b × All P bs

unfoldable pub Any : (Booked → Type 0) → List Booked → Type 0
Any P [] = ⊥
Any P (b ∷ bs) = P b ⊎ Any P bs

unfoldable pub Pairs : (Booked → Booked → Type 0) → List Booked → Type 0
Pairs R [] = Unit {0}
Pairs R (b ∷ bs) = All (R b) bs × Pairs R bs

abbrev pub whereabouts : Standing → Option Whereabouts
whereabouts Free = None
whereabouts (Waiting hop due failed about) = Some waiting
whereabouts (Out hop number since failed about) = Some out
whereabouts (Inbox entered about) = Some inbox
whereabouts (Notice entered about) = None

-- the message lies, byte for byte, in the place where it is booked and in no other, and is there as the account has it
pub record Held (s : State) (b : Booked) : Type 0 where
  pub within : b.place < length s.places
  pub bytes : at b.place s.places ≡ b.rec
  pub stands : whereabouts (standing_at s.standings b.place) ≡ Some b.stand
  pub nowhere_else : (q : ℕ) → at q s.places ≡ b.rec → q ≡ b.place

-- not ended and held, or ended exactly once
abbrev pub HeldOrEndedOnce : State → Booked → Type 0
HeldOrEndedOnce s b = ((b.ends ≡ 0) × Held s b) ⊎ (b.ends ≡ 1)

-- booked at the place, and not ended
abbrev pub LiesAt : ℕ → Booked → Type 0
LiesAt p b = (b.ends ≡ 0) × (b.place ≡ p)

-- alike in sender and operation number only if the first had expired when the second came
abbrev pub TakenInOnce : Booked → Booked → Type 0
TakenInOnce new old = alike new.rec old.rec ≡ true → end_in old.rec ≤ new.at

abbrev pub one : Bool → ℕ
one b = cond b 1 0

-- how many places hold a status, notices among them
abbrev pub statuses_in : List (List ℕ) → ℕ
statuses_in [] = 0
statuses_in (rec ∷ recs) = one (is_status rec) + statuses_in recs

abbrev pub Balanced : Counts → List (List ℕ) → Type 0
Balanced c places = c.taken + c.reported ≡ statuses_in places + c.passed_on + c.collected + c.noticed + c.dropped

pub record Laws (a : Account) (s : State) : Type 0 where
  -- each message taken in is held where it is booked, or has ended exactly once
  pub no_request_lost : All (HeldOrEndedOnce s) a.booked
  -- no place holds a message beside those not ended
  pub no_message_unbooked : (p : ℕ) → is_message (at p s.places) ≡ true → Any (LiesAt p) a.booked
  -- statuses taken in and messages reported are the statuses in places and those passed on, collected, noticed and dropped
  pub statuses_balance : Balanced a.counts s.places
  -- no two messages alike were both taken in, unless the first had expired when the second came
  pub no_request_doubled : Pairs TakenInOnce a.booked
  pub same_time : a.time ≡ s.time
