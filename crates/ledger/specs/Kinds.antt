-- What a row of a ledger means.
use Rattle.std.specs.Prelude.{◌≡◌, ℕ, Bool, true, ◌&&◌, nat_lt}

-- a kind of row R with keys K: which rows are filled, their keys and ends, which keys are the same, and the freed row
pub record Kind (R K : Type 0) : Type 0 where
  pub filled : R → Bool
  pub key : R → K
  pub ends : R → ℕ
  pub same : K → K → Bool
  pub freed : R

pub record Equivalence {K : Type 0} (same : K → K → Bool) : Type 0 where
  pub reflexive : (x : K) → same x x ≡ true
  pub symmetric : (x y : K) → same x y ≡ true → same y x ≡ true
  pub transitive : (x y z : K) → same x y ≡ true → same y z ≡ true → same x z ≡ true

-- filled, and its end is later than t
abbrev pub live : {R K : Type 0} → Kind R K → ℕ → R → Bool
live m t r = m.filled r && nat_lt t (m.ends r)

abbrev pub has_key : {R K : Type 0} → Kind R K → K → R → Bool
has_key m k r = m.same (m.key r) k
