use Rattle.std.proofs.Common.{ℕ, List, ◌++◌, vec_items, sym, ap, ◌∙◌}
use Rattle.std.proofs.lemmas.List.{map_push}
use Rattle.words.specs.Cuts.{seen, words_of}
use Rattle.words.proofs.Runs.{words_end, words_more, so_far_more, so_far_all}
use Rattle.words.proofs.cut.words.Goals as goal

pub returns-then-ends_words : goal.returns-then-ends_words
returns-then-ends_words c = so_far_all _ c.loop-cut.rest.now c.args.line.now (words_end c.loop-cut.rest.now _ c.cut_word-cut.ensures.word (sym c.if-ends_words.ensures)) c.loop-cut.invariant

pub loop-cut-preserved : goal.loop-cut-preserved
loop-cut-preserved c =
    ap (λ (ws : List (List ℕ)). ws ++ words_of c.cut_word-cut.result.rest.now) (ap seen c.in_ok-push.ensures.items ∙ map_push (λ x. x.now) (vec_items c.loop-cut.all) c.cut_word-cut.result.word)
    ∙ so_far_more _ _ c.loop-cut.rest.now c.cut_word-cut.result.rest.now c.args.line.now (words_more c.loop-cut.rest.now _ c.cut_word-cut.ensures.word (sym c.if-ends_words.ensures) _ c.cut_word-cut.ensures.rest) c.loop-cut.invariant
