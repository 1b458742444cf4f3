use Rattle.program_support.proofs.BufferLaws.{on_err}
use Rattle.literal_cases.proofs.LineLaws as lines
use Rattle.literal_cases.proofs.put_bases.Goals as goal

pub loop-base-init : goal.loop-base-init
loop-base-init g c = lines.bases_none c.args.lines.now

pub returns-in_err-put_base-clause-err : goal.returns-in_err-put_base-clause-err
returns-in_err-put_base-clause-err g c = on_err c.from_residual.result (lines.bases_some 39 _ c.loop-base-test.true c.loop-base.invariant c.in_err-put_base.ensures.err)

pub loop-base-preserved : goal.loop-base-preserved
loop-base-preserved g c = lines.bases_more _ c.loop-base.invariant c.in_ok-put_base.ensures.ok
