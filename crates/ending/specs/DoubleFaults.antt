-- A status that cannot be delivered.
use Rattle.std.specs.Prelude.{ℕ, cond}
use Rattle.standing.specs.Standings.{with_standing}
use Rattle.standing.specs.declared.standing.About.{About}
use Rattle.standing.specs.declared.standing.Standing.TheVariants.{Notice}
use Rattle.relay.specs.States.{State, holding}
use Rattle.relay.specs.Moves.{discharged}

-- a notice where contacts want to hear of it, else dropped
abbrev pub double_fault : State → ℕ → About → State
double_fault s place about =
    cond about.notify (holding s (with_standing s.standings place (Notice s.time about)) s.places) (discharged s place)
