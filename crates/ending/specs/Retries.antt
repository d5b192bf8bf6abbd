-- Waiting again after a failed try.
use Rattle.std.specs.Prelude.{ℕ, zero, suc, ◌+◌, min}
use Rattle.standing.specs.Standings.{standing_at, with_standing, waiting_again}
use Rattle.relay.specs.States.{State, holding}

-- one failed try more; six count for all later ones
abbrev pub one_more : ℕ → ℕ
one_more failed = min (failed + 1) 6

-- the delay in seconds after so many failed tries
abbrev pub delay_after : ℕ → ℕ
delay_after zero = 0
delay_after (suc zero) = 60
delay_after (suc (suc zero)) = 120
delay_after (suc (suc (suc zero))) = 300
delay_after (suc (suc (suc (suc zero)))) = 600
delay_after (suc (suc (suc (suc (suc zero))))) = 1800
delay_after (suc (suc (suc (suc (suc (suc n)))))) = 3600

-- the due time after one more failed try at this time
abbrev pub due_again : ℕ → ℕ → ℕ
due_again time failed = time + delay_after (one_more failed)

-- what is out at the place waits again
abbrev pub waits_again : State → ℕ → ℕ → State
waits_again s place failed =
    holding s (with_standing s.standings place (waiting_again (due_again s.time failed) (one_more failed) (standing_at s.standings place))) s.places
