-- The balance of statuses, when what lies at one place changes.
use Rattle.std.proofs.Common.{◌≡◌, ℕ, ◌+◌, Bool, true, false, List, ap, arith}
use Rattle.account.specs.Accounts.{Counts, one_taken, one_reported, one_passed_on, one_collected, one_noticed, one_dropped}
use Rattle.account.specs.Laws.{one, statuses_in, Balanced}

-- how many there are, by whether the place held a status and whether it does now
module _ (now before : ℕ) (held holds : Bool) (change : now + one held ≡ before + one holds) where
  pub as_many : held ≡ holds → now ≡ before
  as_many e = let z : one held ≡ one holds = ap one e in omega (arith, change, z)

  pub one_more : held ≡ false → holds ≡ true → now ≡ before + 1
  one_more e f = let z : one held ≡ 0 = ap one e in let k : one holds ≡ 1 = ap one f in omega (arith, change, z, k)

  pub one_less : held ≡ true → holds ≡ false → before ≡ now + 1
  one_less e f = let z : one held ≡ 1 = ap one e in let k : one holds ≡ 0 = ap one f in omega (arith, change, z, k)

module _ (c : Counts) (before now : List (List ℕ)) (balance : Balanced c before) where
  pub balance_kept : statuses_in now ≡ statuses_in before → Balanced c now
  balance_kept e = omega (arith, balance, e)

  pub balance_taken : statuses_in now ≡ statuses_in before + 1 → Balanced (one_taken c) now
  balance_taken e = omega (arith, balance, e)

  pub balance_reported : statuses_in now ≡ statuses_in before + 1 → Balanced (one_reported c) now
  balance_reported e = omega (arith, balance, e)

  pub balance_passed_on : statuses_in before ≡ statuses_in now + 1 → Balanced (one_passed_on c) now
  balance_passed_on e = omega (arith, balance, e)

  pub balance_collected : statuses_in before ≡ statuses_in now + 1 → Balanced (one_collected c) now
  balance_collected e = omega (arith, balance, e)

  pub balance_noticed : statuses_in before ≡ statuses_in now + 1 → Balanced (one_noticed c) now
  balance_noticed e = omega (arith, balance, e)

  pub balance_dropped : statuses_in before ≡ statuses_in now + 1 → Balanced (one_dropped c) now
  balance_dropped e = omega (arith, balance, e)
