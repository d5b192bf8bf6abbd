-- Times in records are of 32 bits: that of every record in the spool, since what arrives is bytes.
use Rattle.std.specs.Prelude.{◌≡◌, ℕ, ◌^◌, ◌<◌, List, Ok, Result}
use Rattle.text.specs.Said.{Said}
use Rattle.envelope.specs.Views.{Whole}
use Rattle.envelope.specs.Decoding.{decode}
use Rattle.spool.specs.Meaning.{at}
use Rattle.relay.specs.States.{State}
use Rattle.message_rows.specs.declared.message.MessageRow.{MessageRow}
use Rattle.account.specs.Deeds.{Deed}
use Rattle.account.specs.Moves.{Did}

abbrev pub InRange : List ℕ → Type 0
InRange rec = (w : Whole) → ◌≡◌ {A = Result Whole Said} (decode rec) (Ok w) → w.fields.todt < 2 ^ 32

abbrev pub AllInRange : List (List ℕ) → Type 0
AllInRange places = (p : ℕ) → InRange (at p places)

-- the deed was done, and every time is in range still
pub record Done (deed : Deed) (s s' : State) (rows rows' : List MessageRow) : Type 0 where
  pub did : Did deed s s' rows rows'
  pub in_range : AllInRange s'.places
