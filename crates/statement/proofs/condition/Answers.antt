use native.Mathlib.Omega.{arith}
use Rattle.expression.proofs.Heads as heads
use Rattle.walk.proofs.Loans.{after_errors}
use Rattle.statement.proofs.Own as laws
use Rattle.statement.proofs.condition.Goals as goal

pub overflow_sub-value : goal.overflow_sub-value
overflow_sub-value c = omega (arith, heads.deep c.requires.fine_record)

pub returns-clause-effect : goal.returns-clause-effect
returns-clause-effect c = rw (after_errors c.check_types_are_assignable.ensures.loans _) (laws.condition_checked _ _ _ c.type_check_expression-ty.ensures.effect c.check_types_are_assignable.ensures.effect)
