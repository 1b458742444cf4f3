use Rattle.program_support.proofs.BufferLaws.{on_err}
use Rattle.literal_cases.proofs.LineLaws as lines
use Rattle.literal_cases.proofs.put_bytes.Goals as goal

pub loop-byte-init : goal.loop-byte-init
loop-byte-init g c = lines.bytes_none c.args.base c.args.lines.now

pub returns-in_err-put_byte-clause-err : goal.returns-in_err-put_byte-clause-err
returns-in_err-put_byte-clause-err g c = on_err c.from_residual.result (lines.bytes_some c.args.base 256 _ c.loop-byte-test.true c.loop-byte.invariant c.in_err-put_byte.ensures.err)

pub loop-byte-preserved : goal.loop-byte-preserved
loop-byte-preserved g c = lines.bytes_more c.args.base _ c.loop-byte.invariant c.in_ok-put_byte.ensures.ok
