use Rattle.walk.proofs.Cells as laws
use Rattle.walk.proofs.Loans.{rows_then}
use native.Mathlib.Omega.{arith}
use Rattle.declare.proofs.make_arguments.Goals as goal

pub make-rest-requires : goal.make-rest-requires
make-rest-requires c = record { table = laws.left_ok _ _ _ _ _ _ _ _ _ _ _ _ c.loop-i.invariant.0 c.loop-i-test.true; indexed = c.loop-i.invariant.0.ok.indexed }

pub loop-i-preserved : goal.loop-i-preserved
loop-i-preserved c = (laws.left_on _ _ _ _ _ _ _ _ _ _ _ _ c.loop-i.invariant.0 c.loop-i-test.true _ _ _ c.make-rest.ensures.effect, rows_then c.loop-i.invariant.1 c.make-rest.ensures.loans)

pub returns-clause-effect : goal.returns-clause-effect
returns-clause-effect c = laws.left_done _ _ _ _ _ _ _ _ _ _ _ _ c.loop-i.invariant.0 (omega (arith, c.loop-i-test.false))
