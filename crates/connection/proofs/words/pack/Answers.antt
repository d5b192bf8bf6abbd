use Rattle.std.proofs.Common.{◌≡◌, ℕ, ◌<◌, length, get_or, ap, ◌∙◌, arith, rules}
use Rattle.std.proofs.lemmas.Grind.{common_steps}
use Rattle.connection.specs.Words.{words_of, bytes_of}
use Rattle.connection.proofs.Spreads.{bytes_back}
use Rattle.connection.proofs.words.pack.Goals as goal

pub returns-clause-back : goal.returns-clause-back
returns-clause-back c =
    let bytes : (i : ℕ) → get_or c.args.bytes.now i 0 < 256 = search rules in
    let long : length c.args.bytes.now ≡ 64 = search rules in
    let words : c.from_fn.result ≡ words_of c.args.bytes.now = grind (arith, common_steps) in
    ap bytes_of words ∙ bytes_back c.args.bytes.now bytes long
