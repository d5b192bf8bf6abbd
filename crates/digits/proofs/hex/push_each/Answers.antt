use Rattle.std.proofs.Common.{ℕ, List, [], ◌∷◌, ◌++◌, get_or, ap, ◌∙◌}
use Rattle.digits.specs.Hexes.{hex_text}
use Rattle.digits.proofs.Writing.{text_more}
use Rattle.digits.proofs.hex.push_each.Goals as goal

pub loop-b-preserved : goal.loop-b-preserved
loop-b-preserved c =
    c.in_ok-push_byte.ensures
    ∙ ap (λ (o : List ℕ). o ++ hex_text (get_or c.args.bytes.now c.loop-b.b-index 0 ∷ [])) c.loop-b.invariant
    ∙ text_more _ c.args.bytes.now c.loop-b.b-index c.loop-b-test.true
