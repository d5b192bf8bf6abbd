-- How long an envelope is live, in seconds since 1970.
use Rattle.std.specs.Prelude.{ℕ, ◌+◌, ◌-◌, Bool, cond, ◌==◌, nat_lt}
use Rattle.envelope.specs.Views.{Whole}

-- a message expires TO seconds before TODT
abbrev pub end_of_message : ℕ → ℕ → ℕ
end_of_message todt to = todt - to

-- a status is kept for seven days after it
abbrev pub end_of_status : ℕ → ℕ
end_of_status todt = todt + 604800

-- by the kind: 1 is a message
abbrev pub end_of : Whole → ℕ
end_of w = cond (w.kind == 1) (end_of_message w.fields.todt w.fields.to) (end_of_status w.fields.todt)

-- live before that second
abbrev pub live_at : Whole → ℕ → Bool
live_at w time = nat_lt time (end_of w)
