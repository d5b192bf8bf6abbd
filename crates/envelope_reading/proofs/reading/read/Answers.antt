use Rattle.std.proofs.lemmas.Result.{IfOk-weaker}
use Rattle.envelope_reading.proofs.Laws.{laws_made}
use Rattle.envelope_reading.proofs.reading.read.Goals as goal

pub returns : goal.returns
returns c =
    let l = laws_made c.args.rec.now c.parse.result c.parse.ensures in
    record { value = c.parse.ensures; lawful = IfOk-weaker c.parse.result _ _ (λ _ h. h.lawful) l; placed = IfOk-weaker c.parse.result _ _ (λ _ h. h.placed) l }
