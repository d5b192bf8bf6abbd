-- The relay as its calls see it: the time, the last try number given, its address, the standings, and what each place holds.
use Rattle.std.specs.Prelude.{List, ℕ, max, replicate}
use Rattle.spool.specs.Uses.{emptied}
use Rattle.standing.specs.declared.standing.Standing.{Standing}
use Rattle.standing.specs.declared.standing.Standing.TheVariants.{Free}

pub record State : Type 0 where
  pub time : ℕ
  pub given : ℕ
  pub address : List ℕ
  pub standings : List Standing
  pub places : List (List ℕ)

-- a new relay: at time 0, no try given, each place free and empty
abbrev pub fresh : List ℕ → List (List ℕ) → State
fresh address places = record { time = 0; given = 0; address = address; standings = replicate 256 Free; places = emptied places }

-- a clock reading taken: the time is the greatest so far
abbrev pub timed : State → ℕ → State
timed s clock = record { time = max s.time clock; given = s.given; address = s.address; standings = s.standings; places = s.places }

-- other standings and places, all else as it is
abbrev pub holding : State → List Standing → List (List ℕ) → State
holding s standings places = record { time = s.time; given = s.given; address = s.address; standings = standings; places = places }
