use Rattle.std.proofs.Common.{◌≡◌, false, ap, ◌∙◌, rules}
use Rattle.std.proofs.lemmas.Iterator.{YieldsList-from_slice}
use Rattle.text.proofs.Joins.{by_parts}
use Rattle.text.proofs.Tries.{tries, or_false, tries_names, tried}
use Rattle.text.proofs.forms.has_names.Goals as goal

pub returns : goal.returns
returns c =
    let s = c.args.s.now in
    let t : c.try_fold.result ≡ tries false s =
    tried _ _ (λ x. x.now) _ _ (λ a x r q k. search rules) _ _ s false c.try_fold.result c.try_fold.ensures.ran (YieldsList-from_slice s c.iter.ensures.rest) in
    let u : c.unwrap_or.result ≡ or_false c.try_fold.result = search rules in
    u ∙ ap or_false t ∙ tries_names s false ∙ by_parts s
