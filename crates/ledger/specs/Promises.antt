-- What holds of finding, adding and striking since sameness of keys is reflexive, symmetric and transitive.
use Rattle.std.specs.Prelude.{◌≡◌, ℕ, ◌≤◌, true, false, List, None, Option, Result}
use Rattle.ledger.specs.declared.fault.LedgerFault.{LedgerFault}
use Rattle.ledger.specs.Kinds.{Kind, live}
use Rattle.ledger.specs.Searches.{found}
use Rattle.ledger.specs.Changes.{or_refused}

module _ {R K : Type 0} (m : Kind R K) where
  -- a same key finds the same row
  abbrev pub FoundAlike : ℕ → K → List R → Option ℕ → Type 0
  FoundAlike t key rows answer = (k : K) → m.same k key ≡ true → answer ≡ found m t k rows

  -- whenever the row is live, its key and each same key find it where it was added
  abbrev pub FoundAgain : R → List R → Result ℕ LedgerFault → Type 0
  FoundAgain row after answer = (t : ℕ) (k : K) → live m t row ≡ true → m.same k (m.key row) ≡ true → answer ≡ or_refused (found m t k after)

  -- from time t on, a key that is not the same finds what it found before
  abbrev pub OthersAsBefore : ℕ → K → List R → List R → Type 0
  OthersAsBefore t key before after = (u : ℕ) (k : K) → t ≤ u → m.same k key ≡ false → found m u k after ≡ found m u k before

  -- no key finds a row at any time
  abbrev pub NothingFound : List R → Type 0
  NothingFound rows = (t : ℕ) (k : K) → found m t k rows ≡ None
