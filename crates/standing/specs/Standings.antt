-- What becomes of a standing.
use Rattle.std.specs.Prelude.{ℕ, Bool, true, false, cond, List, nat_lt, slice_index_or, slice_set}
use Rattle.standing.specs.declared.standing.Standing.{Standing}
use Rattle.standing.specs.declared.standing.Standing.TheVariants.{Free, Waiting, Out, Inbox, Notice}

abbrev pub is_free : Standing → Bool
is_free Free = true
is_free (Waiting hop due failed about) = false
is_free (Out hop n s failed about) = false
is_free (Inbox entered about) = false
is_free (Notice entered about) = false

-- a waiting envelope goes out under a try number
abbrev pub out_under : ℕ → ℕ → Standing → Standing
out_under number since Free = Free
out_under number since (Waiting hop due failed about) = Out hop number since failed about
out_under number since (Out hop n s failed about) = Out hop n s failed about
out_under number since (Inbox entered about) = Inbox entered about
out_under number since (Notice entered about) = Notice entered about

-- one that is out waits again
abbrev pub waiting_again : ℕ → ℕ → Standing → Standing
waiting_again due more Free = Free
waiting_again due more (Waiting hop d failed about) = Waiting hop d failed about
waiting_again due more (Out hop n s failed about) = Waiting hop due more about
waiting_again due more (Inbox entered about) = Inbox entered about
waiting_again due more (Notice entered about) = Notice entered about

-- a place past the last counts as free, and nothing is put there
abbrev pub standing_at : List Standing → ℕ → Standing
standing_at ss place = cond (nat_lt place 256) (slice_index_or ss place Free) Free

abbrev pub with_standing : List Standing → ℕ → Standing → List Standing
with_standing ss place s = cond (nat_lt place 256) (slice_set ss place s) ss
