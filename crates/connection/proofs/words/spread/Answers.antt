use Rattle.std.proofs.Common.{◌≡◌, ℕ, ◌<◌, List, [], length, get_or, ap, ◌∙◌, rules}
use Rattle.text.specs.Padding.{padded}
use Rattle.connection.specs.Words.{bytes_of_word}
use Rattle.connection.proofs.Spreads.{spread_is}
use Rattle.connection.proofs.words.spread.Goals as goal

pub returns : goal.returns
returns c =
    let made = c.map.ensures.items in
    let each : (k : ℕ) → k < 8 → get_or {A = List ℕ} c.map.result k [] ≡ bytes_of_word (get_or c.args.words.now k 0) = λ k h. let m = (made.at k 0 [] h).2 in search rules in
    let eight : length c.args.words.now ≡ 8 = search rules in
    c.pad.ensures ∙ ap (padded 64) c.as_flattened.ensures.value ∙ spread_is c.args.words.now c.map.result eight made.long each
