-- How many places hold a status, when one place changes.
use Rattle.std.proofs.Common.{◌≡◌, ℕ, zero, suc, ◌+◌, ◌<◌, List, [], ◌∷◌, length, set, arith}
use Rattle.spool.specs.Meaning.{at}
use Rattle.account.specs.Records.{is_status}
use Rattle.account.specs.Laws.{one, statuses_in}

-- what came counts in the place of what went
pub statuses_after_set : (places : List (List ℕ)) (p : ℕ) (rec : List ℕ) → p < length places
    → statuses_in (set places p rec) + one (is_status (at p places)) ≡ statuses_in places + one (is_status rec)
statuses_after_set [] p rec h = absurd (omega arith)
statuses_after_set (x ∷ xs) zero rec h = omega arith
statuses_after_set (x ∷ xs) (suc p) rec h = let e = statuses_after_set xs p rec (omega arith) in omega (arith, e)
