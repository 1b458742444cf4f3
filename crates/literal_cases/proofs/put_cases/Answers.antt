use Rattle.std.proofs.Common.{arith}
use Rattle.program_support.proofs.BufferLaws.{on_err}
use Rattle.literal_cases.proofs.CaseLaws as cases
use Rattle.literal_cases.proofs.put_cases.Goals as goal

pub loop-at-init : goal.loop-at-init
loop-at-init g c = (omega arith, cases.left_first c.args.input.now c.args.lines.now)

pub returns-in_err-put_case-clause-err : goal.returns-in_err-put_case-clause-err
returns-in_err-put_case-clause-err g c =
    on_err c.from_residual.result (cases.left_some c.args.input.now c.loop-at.invariant.1 _ c.find_from-end.ensures.value c.loop-at-test.true c.in_err-put_case.ensures.err)

pub loop-at-preserved : goal.loop-at-preserved
loop-at-preserved g c = (omega arith, cases.left_next c.args.input.now c.loop-at.invariant.1 _ c.find_from-end.ensures.value c.loop-at-test.true c.in_ok-put_case.ensures.ok)

pub returns-clause-ok : goal.returns-clause-ok
returns-clause-ok g c = cases.left_none c.args.input.now c.loop-at.invariant.1 c.loop-at-test.false
