use Rattle.std.proofs.Common.{sym, ◌∙◌, rules}
use Rattle.std.proofs.lemmas.Iterator.{YieldsList-from_slice}
use Rattle.std.proofs.lemmas.Iterator.Search.{position_from_yields_List}
use Rattle.standing.specs.Standings.{is_free}
use Rattle.standing.proofs.Lowest.{first_free_place}
use Rattle.standing.proofs.table.first_free.Goals as goal

pub returns : goal.returns
returns c =
    position_from_yields_List is_free _ _ _ c.position.ensures.ran (YieldsList-from_slice c.args.standings.now c.iter.ensures.rest) (λ x b q k. search rules)
    ∙ sym (first_free_place c.args.standings.now)
