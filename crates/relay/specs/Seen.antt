-- A relay as its calls see it.
use Rattle.std.specs.Prelude.{List, ℕ}
use Rattle.text.specs.Addresses.{address_text}
use Rattle.relay.specs.States.{State}
use Rattle.relay.specs.declared.relay.Relay.TheInside.{Inside}

-- a relay over a spool whose places hold `held`
abbrev pub view : {S : Type 0} → (S → List (List ℕ)) → Inside S → State
view held r = record { time = r.time; given = r.given; address = address_text r.address; standings = r.table.standings; places = held r.spool }
