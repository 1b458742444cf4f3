use native.Mathlib.Omega.{arith}
use Rattle.records.proofs.Laws as laws
use Rattle.records.proofs.fill_records.Goals as goal

pub loop-i-init : goal.loop-i-init
loop-i-init c = search laws.records_none

pub loop-i-preserved : goal.loop-i-preserved
loop-i-preserved c = laws.records_more _ _ _ _ _ (omega (arith, c.requires.0)) c.loop-i.invariant c.error_at.ensures
