use Rattle.std.proofs.Common.{◌≡◌, None, ap, ◌∙◌, rules}
use Rattle.std.specs.Option.{option_map}
use Rattle.std.proofs.lemmas.Iterator.{YieldsList-from_slice}
use Rattle.routing.specs.Ranked.{seen, with_rank, better_after}
use Rattle.routing.proofs.Upper.{row_of_best, found_with_rank, way_of_seen, way_of_ranked, picked_way}
use Rattle.routing.proofs.Folding.{folded}
use Rattle.routing.proofs.choice.best_way.Goals as goal

pub returns : goal.returns
returns c =
    let rows = c.args.rows.now in
    let t = c.args.query.target.now in
    let d = c.args.query.dataflow.now in
    let picked : option_map seen c.fold.result ≡ option_map with_rank (row_of_best t d rows) =
    folded (λ x. x.now) (option_map seen) (better_after t d) (λ a x b q k. search rules) None c.fold.result c.fold.ensures.ran (YieldsList-from_slice rows (cc)) ∙ found_with_rank t d rows in
    let mapped : c.map.result ≡ option_map (λ x. x.row.now.way) c.fold.result = search rules in
    mapped ∙ way_of_seen c.fold.result ∙ ap (option_map (λ p. p.1.way)) picked ∙ way_of_ranked (row_of_best t d rows) ∙ picked_way t d rows
