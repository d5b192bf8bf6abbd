use Rattle.std.proofs.Common.{List, ℕ, ◌-◌, length, take, drop, sym, ap, ◌∙◌, arith}
use Rattle.digits.specs.Hexes.{hex_of}
use Rattle.digits.proofs.Pairs.{joined_to, hex_more}
use Rattle.digits.proofs.hex.hex.Goals as goal

pub loop-rest-preserved : goal.loop-rest-preserved
loop-rest-preserved c =
    ap (λ (o : List ℕ). joined_to o (hex_of (take (length c.loop-rest.rest.now - 2) (drop 2 c.loop-rest.rest.now)))) c.in_ok-push-in-Some.ensures.items
    ∙ sym (hex_more _ c.loop-rest.rest.now _ (omega arith) c.in-Some.ensures)
    ∙ c.loop-rest.invariant
