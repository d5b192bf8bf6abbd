use Rattle.std.proofs.Common.{◌≡◌, ℕ, ◌+◌, ◌<◌, get_or, ap, ◌∙◌, arith, rules}
use Rattle.connection.specs.Words.{word_at}
use Rattle.connection.proofs.words.word_at.Goals as goal

pub returns : goal.returns
unfolding word_at
returns c =
    let bs = c.args.bytes.now in
    let byte : (k : ℕ) → k < 8 → get_or c.from_fn.result k 0 ≡ get_or bs (c.args.at + k) 0 = λ k h. let m = (c.from_fn.ensures.items.at k 0 h).2 in search rules in
    let b0 : get_or c.from_fn.result 0 0 ≡ get_or bs c.args.at 0 = byte 0 (omega arith) ∙ ap (λ k. get_or bs k 0) (omega arith) in
    let b1 = byte 1 (omega arith) in
    let b2 = byte 2 (omega arith) in
    let b3 = byte 3 (omega arith) in
    let b4 = byte 4 (omega arith) in
    let b5 = byte 5 (omega arith) in
    let b6 = byte 6 (omega arith) in
    let b7 = byte 7 (omega arith) in
    cc
