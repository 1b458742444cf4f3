use Rattle.walk.proofs.Cells as laws
use Rattle.walk.proofs.Loans as loans
use native.Mathlib.Omega.{arith}
use Rattle.convert.proofs.make_fields.Goals as goal

pub loop-left-init : goal.loop-left-init
loop-left-init c = (laws.left_start _ _ _ _ _ _ _ c.requires.cells_ok, loans.rows_refl _)

pub overflow_sub-left : goal.overflow_sub-left
overflow_sub-left c = omega (arith, c.loop-left-test.true)

pub overflow_mul-ty : goal.overflow_mul-ty
overflow_mul-ty c = omega (arith, c.requires.kept_len, c.loop-left.invariant.0.few, c.loop-left-test.true)

pub offset_bounds-kept-left : goal.offset_bounds-kept-left
offset_bounds-kept-left c = omega (arith, c.requires.kept_len, c.loop-left.invariant.0.few, c.loop-left-test.true)

pub bounds-kept-left : goal.bounds-kept-left
bounds-kept-left c = omega (arith, c.requires.kept_len, c.loop-left.invariant.0.few, c.loop-left-test.true)

pub overflow_mul-name : goal.overflow_mul-name
overflow_mul-name c = omega (arith, c.requires.kept_len, c.loop-left.invariant.0.few, c.loop-left-test.true)

pub overflow_add-name : goal.overflow_add-name
overflow_add-name c = omega (arith, c.requires.kept_len, c.loop-left.invariant.0.few, c.loop-left-test.true)

pub offset_bounds-kept-left-in-loop-left : goal.offset_bounds-kept-left-in-loop-left
offset_bounds-kept-left-in-loop-left c = omega (arith, c.requires.kept_len, c.loop-left.invariant.0.few, c.loop-left-test.true)

pub bounds-kept-left-in-loop-left : goal.bounds-kept-left-in-loop-left
bounds-kept-left-in-loop-left c = omega (arith, c.requires.kept_len, c.loop-left.invariant.0.few, c.loop-left-test.true)

pub make-rest-requires : goal.make-rest-requires
make-rest-requires c = record {
  table = laws.left_ok _ _ _ _ _ _ _ _ _ _ _ _ c.loop-left.invariant.0 c.loop-left-test.true;
  indexed = c.loop-left.invariant.0.ok.indexed;
}

pub loop-left-smaller : goal.loop-left-smaller
loop-left-smaller c = omega (arith, c.loop-left-test.true)

pub loop-left-preserved : goal.loop-left-preserved
loop-left-preserved c = (laws.left_on _ _ _ _ _ _ _ _ _ _ _ _ c.loop-left.invariant.0 c.loop-left-test.true _ _ _ c.make-rest.ensures.effect, loans.rows_then c.loop-left.invariant.1 c.make-rest.ensures.loans)

pub returns-clause-effect : goal.returns-clause-effect
returns-clause-effect c = laws.left_done _ _ _ _ _ _ _ _ _ _ _ _ c.loop-left.invariant.0 (omega (arith, c.loop-left-test.false))
