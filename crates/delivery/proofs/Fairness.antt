-- What a hand-out tells, in words of places and times.
use Rattle.std.proofs.Common.{ℕ, max, true, false, cond, eqb, List, Some, None, Ok, Err, Option, Result, refl}
use Rattle.searches.specs.Earliest.{FirstOf, Due}
use Rattle.searches.specs.declared.search.Found.{Found}
use Rattle.standing.specs.declared.standing.Standing.{Standing}
use Rattle.searches.proofs.First.{first_of}
use Rattle.relay.specs.States.{State, timed}
use Rattle.delivery.specs.declared.fault.HandOutFault.{HandOutFault}
use Rattle.delivery.specs.declared.fault.HandOutFault.TheVariants.{TriesUsed}
use Rattle.delivery.specs.declared.handing_out.HandOut.{HandOut}
use Rattle.delivery.specs.HandOuts.{hand_out_of, told_of, hand_out_answer, next_due, Fair}

told : (s : State) (t : ℕ) (ss : List Standing) (found : Option Found) → FirstOf (Due t) ss found → Fair t ss (told_of s found)
told s t ss None h = h
told s t ss (Some found) h =
    elim (eqb s.given 4294967295) as (λ b. Fair t ss (cond {A = Result (Option HandOut) HandOutFault} b (Err TriesUsed) (Ok (Some (hand_out_of s found.place))))) [
      | true ↦ (found.place, found.time, h.0)
      | false ↦ (found.time, h.0, h.1)
    ]

pub fair : (s : State) (clock : ℕ) → Fair (max s.time clock) s.standings (hand_out_answer s clock)
fair s clock = told (timed s clock) (max s.time clock) s.standings (next_due (timed s clock)) (first_of (Due (max s.time clock)) s.standings (next_due (timed s clock)) refl)
