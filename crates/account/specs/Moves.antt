-- What a deed is, between the relay as the clock reading left it and the relay after the call.
use Rattle.std.specs.Prelude.{◌≡◌, ℕ, ◌<◌, true, ◌⊎◌, List, [], length, Some, None, Ok, Option, Result, slice_set}
use Rattle.text.specs.Said.{Said}
use Rattle.envelope.specs.Views.{Whole}
use Rattle.envelope.specs.Decoding.{decode}
use Rattle.envelope.specs.declared.parts.Kind.{Kind}
use Rattle.envelope.specs.declared.parts.Kind.TheVariants as kind
use Rattle.ledger.specs.Searches.{found, place_for}
use Rattle.ledger.specs.Changes.{rows_after_adding}
use Rattle.message_rows.specs.Messages.{messages, message_key_of, message_key}
use Rattle.message_rows.specs.declared.message.MessageKey.{MessageKey}
use Rattle.message_rows.specs.declared.message.MessageRow.{MessageRow}
use Rattle.spool.specs.Meaning.{at}
use Rattle.standing.specs.Standings.{standing_at}
use Rattle.standing.specs.declared.standing.About.{About}
use Rattle.standing.specs.declared.standing.Standing.{Standing}
use Rattle.standing.specs.declared.standing.Standing.TheVariants.{Free, Waiting, Out, Inbox, Notice}
use Rattle.relay.specs.States.{State}
use Rattle.account.specs.Records.{is_message, is_status, end_in}
use Rattle.account.specs.Deeds.{Whereabouts, Deed}
use Rattle.account.specs.Deeds.Deed.{nothing, taken_in, turned, passed_on, reported, collected, noticed, dropped}
use Rattle.account.specs.Laws.{whereabouts}
use Rattle.account.specs.Faith.{Matches, Answers}

-- nothing but one place of the spool has changed: it stands as st now, and holds rec
pub record Changed (p : ℕ) (st : Standing) (rec : List ℕ) (s s' : State) : Type 0 where
  pub time : s'.time ≡ s.time
  pub address : s'.address ≡ s.address
  pub within : p < length s.places
  pub standings : s'.standings ≡ slice_set s.standings p st
  pub places : s'.places ≡ slice_set s.places p rec

-- what is known of the envelope at a standing; none where it is free
abbrev pub about_in : Standing → Option About
about_in Free = None
about_in (Waiting hop due failed about) = Some about
about_in (Out hop number since failed about) = Some about
about_in (Inbox entered about) = Some about
about_in (Notice entered about) = Some about

-- an envelope of this kind is at the place
abbrev pub Holds : State → ℕ → Kind → Type 0
Holds s p k = (about : About) × (about_in (standing_at s.standings p) ≡ Some about) × (about.kind ≡ k)

-- a record that was read and lives comes into a free place
pub record TookIn (s s' : State) (rows rows' : List MessageRow) (rec : List ℕ) (p : ℕ) (w : Whereabouts) : Type 0 where
  pub st : Standing
  pub free : standing_at s.standings p ≡ Free
  pub changed : Changed p st rec s s'
  pub matched : Matches st rec
  pub stands : whereabouts st ≡ Some w
  pub live : s.time < end_in rec
  -- a status leaves the ledger of messages alone
  pub status : is_message rec ≡ true ⊎ ((is_status rec ≡ true) × (rows' ≡ rows))
  -- no live row had the key of a message, and one that answers for it was added
  pub message : is_message rec ≡ true → (whole : Whole) × (key : MessageKey) × (row : MessageRow)
      × (◌≡◌ {A = Result Whole Said} (decode rec) (Ok whole))
      × (message_key_of whole.fields.fr.bytes whole.fields.on.bytes ≡ Some key)
      × (found messages s.time key rows ≡ None)
      × ((j : ℕ) × (place_for messages s.time key rows ≡ Some j))
      × (message_key row ≡ key) × Answers row rec × (rows' ≡ rows_after_adding messages s.time row rows)

-- the envelope at the place is elsewhere now, the same envelope
pub record Turned (s s' : State) (p : ℕ) (w : Option Whereabouts) : Type 0 where
  pub st : Standing
  pub about : About
  pub before : about_in (standing_at s.standings p) ≡ Some about
  pub after : about_in st ≡ Some about
  pub changed : Changed p st (at p s.places) s s'
  pub stands : whereabouts st ≡ w

abbrev pub Cleared : State → State → ℕ → Kind → Type 0
Cleared s s' p k = Holds s p k × Changed p Free [] s s'

-- a message gives way to a status about it
pub record GaveWay (s s' : State) (p : ℕ) : Type 0 where
  pub st : Standing
  pub rec : List ℕ
  pub before : Holds s p kind.Message
  pub changed : Changed p st rec s s'
  pub matched : Matches st rec
  pub status : is_status rec ≡ true

-- a status that cannot be delivered is set aside for a notice: nothing that the account books
abbrev pub SetAside : State → State → Type 0
SetAside s s' = (p : ℕ) × Holds s p kind.Status × Turned s s' p None

abbrev pub Did : Deed → State → State → List MessageRow → List MessageRow → Type 0
Did nothing s s' rows rows' = ((s' ≡ s) ⊎ SetAside s s') × (rows' ≡ rows)
Did (taken_in rec p w) s s' rows rows' = TookIn s s' rows rows' rec p w
Did (turned p w) s s' rows rows' = Turned s s' p (Some w) × (rows' ≡ rows)
Did (passed_on k p) s s' rows rows' = Cleared s s' p k × (rows' ≡ rows)
Did (reported p) s s' rows rows' = GaveWay s s' p × (rows' ≡ rows)
Did (collected k rec) s s' rows rows' = ((p : ℕ) × (rec ≡ at p s.places) × Cleared s s' p k) × (rows' ≡ rows)
Did (noticed k) s s' rows rows' = (k ≡ kind.Status) × ((p : ℕ) × Cleared s s' p k) × (rows' ≡ rows)
Did (dropped k) s s' rows rows' = (k ≡ kind.Status) × ((p : ℕ) × Cleared s s' p k) × (rows' ≡ rows)
