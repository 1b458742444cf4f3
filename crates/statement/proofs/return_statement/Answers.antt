use native.Mathlib.Omega.{arith}
use Rattle.expression.proofs.Laws.{type_later, two_types}
use Rattle.walk.proofs.Loans.{after_errors}
use Rattle.statement.proofs.Own as laws
use Rattle.divergence.proofs.Walk.{bounds}
use Rattle.statement.proofs.return_statement.Goals as goal

pub length_at-requires : goal.length_at-requires
length_at-requires c = omega (arith, (bounds _ _ _ _ _ c.requires.fine_node.0).head, (bounds _ _ _ _ _ c.requires.fine_node.0).stop)

pub return_without_value-requires : goal.return_without_value-requires
return_without_value-requires c = (omega (arith, (bounds _ _ _ _ _ c.requires.fine_node.0).head, (bounds _ _ _ _ _ c.requires.fine_node.0).stop), c.requires.one_type)

pub returns-then-length_at-le-HEAD_END-clause-effect : goal.returns-then-length_at-le-HEAD_END-clause-effect
returns-then-length_at-le-HEAD_END-clause-effect c = rw (after_errors c.return_without_value.ensures.loans _) (laws.return_checked c.requires.fine_node.0 c.requires.fine_node.1 c.length_at.ensures c.if-length_at-le-HEAD_END.true c.requires.ready c.return_without_value.ensures.effect)

pub overflow_sub-value : goal.overflow_sub-value
overflow_sub-value c = omega (arith, (bounds _ _ _ _ _ c.requires.fine_node.0).deep)

pub type_check_expression-ty-requires : goal.type_check_expression-ty-requires
type_check_expression-ty-requires c = record { fine_node = laws.returned_fine c.requires.fine_node.0 c.requires.fine_node.1 c.length_at.ensures c.if-length_at-le-HEAD_END.false; ready = c.requires.ready }

pub check_types_are_assignable-requires : goal.check_types_are_assignable-requires
check_types_are_assignable-requires c = (omega (arith, (bounds _ _ _ _ _ c.requires.fine_node.0).head, (bounds _ _ _ _ _ c.requires.fine_node.0).stop), two_types c.type_check_expression-ty.ensures.effect.walked.walked.grew.good (type_later c.type_check_expression-ty.ensures.effect.walked.walked.grew c.requires.one_type.type) c.type_check_expression-ty.ensures.effect.walked.is)

pub returns-clause-effect : goal.returns-clause-effect
returns-clause-effect c = rw (after_errors c.check_types_are_assignable.ensures.loans _) (laws.return_value_checked c.requires.fine_node.0 c.requires.fine_node.1 c.length_at.ensures c.if-length_at-le-HEAD_END.false c.type_check_expression-ty.ensures.effect c.check_types_are_assignable.ensures.effect)
