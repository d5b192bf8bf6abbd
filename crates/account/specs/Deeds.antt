-- What a call did, in the words of the account.
use Rattle.std.specs.Prelude.{ℕ, List}
use Rattle.envelope.specs.declared.parts.Kind.{Kind}

-- where an envelope is, as an observer knows it
pub data Whereabouts : Type 0 where
  waiting : Whereabouts
  out : Whereabouts
  inbox : Whereabouts

pub data Deed : Type 0 where
  nothing : Deed
  -- a record was taken in at a place, waiting or in the inbox
  taken_in : List ℕ → ℕ → Whereabouts → Deed
  -- the envelope at a place was handed out, or waits again
  turned : ℕ → Whereabouts → Deed
  passed_on : Kind → ℕ → Deed
  reported : ℕ → Deed
  -- the local office received these bytes
  collected : Kind → List ℕ → Deed
  noticed : Kind → Deed
  dropped : Kind → Deed
