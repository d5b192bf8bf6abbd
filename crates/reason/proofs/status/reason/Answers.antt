use Rattle.reason.specs.Reasons.{OfStatus, Within}
use Rattle.reason.proofs.Told.{of_status_lem, within, told_made}
use Rattle.reason.proofs.status.reason.Goals as goal

pub returns : goal.returns
returns c =
    let rec = c.args.rec.now in
    let sheet = c.args.sheet.now in
    record {
      value = c.find_reason.ensures;
      reasoned = told_made rec sheet (OfStatus rec sheet) (of_status_lem rec sheet) _ c.find_reason.ensures;
      placed = told_made rec sheet (Within rec sheet) (within rec sheet) _ c.find_reason.ensures;
    }
