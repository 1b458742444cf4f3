use native.Mathlib.Omega.{arith}
use Rattle.divergence.proofs.Walk.{bounds}
use Rattle.statement.proofs.Own as laws
use Rattle.statement.proofs.expression_statement.Goals as goal

pub overflow_sub-value : goal.overflow_sub-value
overflow_sub-value c = omega (arith, (bounds _ _ _ _ _ c.requires.fine_node.0).deep)

pub type_check_expression-requires : goal.type_check_expression-requires
type_check_expression-requires c = record { fine_node = laws.value_fine c.requires.fine_node.0 c.requires.fine_node.1; ready = c.requires.ready }

pub returns-clause-effect : goal.returns-clause-effect
returns-clause-effect c = laws.expression_checked c.requires.fine_node.0 c.requires.fine_node.1 c.type_check_expression.ensures.effect
