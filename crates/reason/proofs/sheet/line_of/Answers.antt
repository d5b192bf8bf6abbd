use Rattle.std.proofs.Common.{IfSome, sym, subst}
use Rattle.envelope.specs.Lawful.{PartOf}
use Rattle.reason.specs.Sheets.{First}
use Rattle.reason.proofs.Lines.{first_is, line_part}
use Rattle.reason.proofs.sheet.line_of.Goals as goal

pub returns : goal.returns
returns c =
    let sheet = c.args.sheet.now in
    let code = c.args.code in
    let e = sym c.first_text.ensures in
    record {
      value = c.first_text.ensures;
      first = subst (First sheet code 0) e (first_is sheet code);
      placed = subst (λ o. IfSome o (PartOf sheet)) e (line_part sheet code);
    }
