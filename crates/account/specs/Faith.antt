-- What ties the relay and its message ledger to the account between calls. The laws follow from it.
use Rattle.std.specs.Prelude.{◌≡◌, ℕ, ◌<◌, ◌≤◌, true, ◌⊎◌, List, [], length, Some, Ok, Result, slice_index_or}
use Rattle.text.specs.Said.{Said}
use Rattle.text.specs.Forms.{is_address}
use Rattle.envelope.specs.Views.{Whole}
use Rattle.envelope.specs.Decoding.{decode}
use Rattle.envelope.specs.declared.parts.Kind.TheVariants as kind
use Rattle.message_rows.specs.Messages.{message_filled, message_end, message_key, message_key_of, freed_message, same_message}
use Rattle.message_rows.specs.declared.message.MessageRow.{MessageRow}
use Rattle.message_rows.specs.declared.message.MessageKey.{MessageKey}
use Rattle.routing.specs.declared.row.Way.{Way}
use Rattle.spool.specs.Meaning.{at}
use Rattle.standing.specs.Standings.{standing_at}
use Rattle.standing.specs.declared.standing.About.{About}
use Rattle.standing.specs.declared.standing.Standing.{Standing}
use Rattle.standing.specs.declared.standing.Standing.TheVariants.{Free, Waiting, Out, Inbox, Notice}
use Rattle.relay.specs.States.{State}
use Rattle.relay.specs.Abouts.{about_of}
use Rattle.account.specs.Records.{is_message, end_in}
use Rattle.account.specs.Accounts.{Booked, Account}
use Rattle.account.specs.Laws.{All, Any, Pairs, whereabouts, LiesAt, TakenInOnce, Balanced}

-- what is known of the envelope at a place is what its record says
abbrev pub Describes : About → List ℕ → Type 0
Describes about rec = (w : Whole) × (back : Way) × (◌≡◌ {A = Result Whole Said} (decode rec) (Ok w)) × (about ≡ about_of w back)

-- a free place is empty; a notice is a status
abbrev pub Matches : Standing → List ℕ → Type 0
Matches Free rec = rec ≡ []
Matches (Waiting hop due failed about) rec = Describes about rec
Matches (Out hop number since failed about) rec = Describes about rec
Matches (Inbox entered about) rec = Describes about rec
Matches (Notice entered about) rec = Describes about rec × (about.kind ≡ kind.Status)

-- a row of the ledger that answers for the record: filled, with its key and its expiry
pub record Answers (row : MessageRow) (rec : List ℕ) : Type 0 where
  pub filled : message_filled row ≡ true
  pub ends : message_end row ≡ end_in rec
  pub key : (w : Whole) (k : MessageKey) → ◌≡◌ {A = Result Whole Said} (decode rec) (Ok w)
      → message_key_of w.fields.fr.bytes w.fields.on.bytes ≡ Some k → same_message (message_key row) k ≡ true

abbrev pub Listed : List MessageRow → List ℕ → Type 0
Listed rows rec = (i : ℕ) × (i < length rows) × Answers (slice_index_or rows i freed_message) rec

pub record Sound (s : State) (rows : List MessageRow) (b : Booked) : Type 0 where
  pub accounted : (b.ends ≡ 1)
      ⊎ ((b.ends ≡ 0) × (b.place < length s.places) × (at b.place s.places ≡ b.rec)
      × (whereabouts (standing_at s.standings b.place) ≡ Some b.stand))
  pub message : is_message b.rec ≡ true
  pub lived : b.at < end_in b.rec
  -- while it has not expired, a row of the ledger remembers it
  pub listed : s.time < end_in b.rec → Listed rows b.rec

pub record Related (new old : Booked) : Type 0 where
  pub apart : new.place ≡ old.place → old.ends ≡ 1
  pub once : TakenInOnce new old

pub record Faithful (a : Account) (s : State) (rows : List MessageRow) : Type 0 where
  pub same_time : a.time ≡ s.time
  pub address : is_address s.address ≡ true
  pub table : length s.standings ≡ 256
  pub few : length s.places ≤ 256
  pub unused : (p : ℕ) → length s.places ≤ p → standing_at s.standings p ≡ Free
  pub matched : (p : ℕ) → p < length s.places → Matches (standing_at s.standings p) (at p s.places)
  pub each : All (Sound s rows) a.booked
  pub pairs : Pairs Related a.booked
  pub no_other : (p : ℕ) → is_message (at p s.places) ≡ true → Any (LiesAt p) a.booked
  pub balance : Balanced a.counts s.places
