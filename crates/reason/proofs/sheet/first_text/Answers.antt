use Rattle.std.proofs.Common.{Some, None, sym, ap, ◌∙◌, subst, arith}
use Rattle.reason.specs.Sheets.{First, ended, here, later}
use Rattle.reason.proofs.Lines.{only_first, stands_is, line_is, no_line}
use Rattle.reason.proofs.sheet.first_text.Goals as goal

pub loop-line-init : goal.loop-line-init
loop-line-init c = (omega arith, only_first c.args.sheet.now c.args.code)

pub returns-then-line-code : goal.returns-then-line-code
returns-then-line-code c =
    let l = line_is c.args.sheet.now c.loop-line.at _ c.in-Some.ensures in
    ap (λ x. Some x.text) l.1 ∙ c.loop-line.invariant.1 _ (here l.0 (sym (ap (λ x. x.code) l.1) ∙ c.if-line-code.true))

pub loop-line-preserved : goal.loop-line-preserved
loop-line-preserved c =
    let sheet = c.args.sheet.now in
    let l = line_is sheet c.loop-line.at _ c.in-Some.ensures in
    let n = ap (λ x. x.next) l.1 in
    let s = (stands_is sheet c.loop-line.at l.0).1 in
    (omega arith, λ o h. c.loop-line.invariant.1 o (later l.0 (λ f. c.if-line-code.false (ap (λ x. x.code) l.1 ∙ f)) (subst (λ m. First sheet c.args.code m o) n h)))

pub returns : goal.returns
returns c = c.loop-line.invariant.1 None (ended (no_line c.args.sheet.now c.loop-line.at c.in_default.ensures))
