use Rattle.program_support.proofs.BufferLaws.{on_err}
use Rattle.report.proofs.LineLaws.{errors_none, errors_more, errors_some}
use Rattle.report.proofs.put_errors.Goals as goal

pub loop-error-init : goal.loop-error-init
loop-error-init g c = errors_none c.args.errors.now c.args.lines.now

pub returns-in_err-put_error-clause-err : goal.returns-in_err-put_error-clause-err
returns-in_err-put_error-clause-err g c =
    let l = c.loop-error in
    on_err c.from_residual.result (errors_some c.args.errors.now l.error-index _ c.loop-error-test.true l.invariant c.in_err-put_error.ensures.err)

pub loop-error-preserved : goal.loop-error-preserved
loop-error-preserved g c =
    let l = c.loop-error in
    errors_more c.args.errors.now l.error-index _ c.loop-error-test.true l.invariant c.in_ok-put_error.ensures.ok
