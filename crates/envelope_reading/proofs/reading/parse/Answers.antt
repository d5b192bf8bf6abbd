use Rattle.std.proofs.Common.{sym, ap}
use Rattle.std.proofs.lemmas.Result.{err_from_is_err_and}
use Rattle.envelope.specs.Views.{kind_number}
use Rattle.envelope_reading.proofs.Answered.{same_check, fixed_broken, moving_broken, none_broken, no_code}
use Rattle.envelope_reading.proofs.reading.parse.Goals as goal

pub returns-in_err-check : goal.returns-in_err-check
returns-in_err-check c =
    let p = err_from_is_err_and c.from_residual-in_err-check.result c.from_residual-in_err-check.ensures.1 in
    rw (p.1, p.2) (fixed_broken c.args.rec.now _ c.in_ok-kind.ensures.value _ (same_check _ _ c.fixed_of-fixed.ensures _ c.in_err-check.ensures))

pub returns-in_err-parts : goal.returns-in_err-parts
returns-in_err-parts c =
    let p = err_from_is_err_and c.from_residual-in_err-parts.result c.from_residual-in_err-parts.ensures.1 in
    rw (p.1, p.2) (moving_broken c.args.rec.now _ c.in_ok-kind.ensures.value (same_check _ _ c.fixed_of-fixed.ensures _ c.in_ok-check.ensures) _ c.in_err-parts.ensures)

pub returns-in-Message : goal.returns-in-Message
returns-in-Message c =
    let kind = c.in_ok-kind.ensures in
    let fixed = same_check _ _ c.fixed_of-fixed.ensures _ c.in_ok-check.ensures in
    let e = sym (ap kind_number c.in-Message.is) in
    none_broken c.args.rec.now _ kind.value fixed 1 0 _ e (no_code c.args.rec.now _ kind.value fixed e kind.kind) c.in_ok-parts.ensures

pub returns-in-Status : goal.returns-in-Status
returns-in-Status c =
    let kind = c.in_ok-kind.ensures in
    none_broken c.args.rec.now _ kind.value (same_check _ _ c.fixed_of-fixed.ensures _ c.in_ok-check.ensures) 2 _ _ (sym (ap kind_number c.in-Status.is)) c.fixed_of-fixed.ensures.code c.in_ok-parts.ensures
