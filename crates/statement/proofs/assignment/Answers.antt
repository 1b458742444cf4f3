use native.Mathlib.Omega.{arith}
use Rattle.expression.proofs.Heads as heads
use Rattle.convert.proofs.Heads.{ready_later}
use Rattle.walk.proofs.Loans.{after_errors}
use Rattle.statement.proofs.Own as laws
use Rattle.divergence.proofs.Walk.{bounds}
use Rattle.statement.proofs.assignment.Goals as goal

pub overflow_sub-depth : goal.overflow_sub-depth
overflow_sub-depth c = omega (arith, (bounds _ _ _ _ _ c.requires.fine_node.0).deep)

pub type_check_expression-target-requires : goal.type_check_expression-target-requires
type_check_expression-target-requires c = record { fine_node = laws.target_fine c.requires.fine_node.0 c.requires.fine_node.1; ready = c.requires.ready }

pub length_at-requires : goal.length_at-requires
length_at-requires c = omega (arith, heads.slot_room (laws.target_fine c.requires.fine_node.0 c.requires.fine_node.1))

pub type_check_expression-value-requires : goal.type_check_expression-value-requires
type_check_expression-value-requires c = record { fine_node = laws.assigned_fine c.requires.fine_node.0 c.requires.fine_node.1 _ (heads.stops_at _ _ _ c.length_at.ensures); ready = ready_later c.requires.ready c.type_check_expression-target.ensures.effect.walked.walked.grew c.type_check_expression-target.ensures.effect.walked.walked.frame.long }

pub check_types_are_assignable-requires : goal.check_types_are_assignable-requires
check_types_are_assignable-requires c = (omega (arith, (bounds _ _ _ _ _ c.requires.fine_node.0).head, (bounds _ _ _ _ _ c.requires.fine_node.0).stop), laws.sides_types c.requires.fine_node.0 c.requires.fine_node.1 c.type_check_expression-target.ensures.effect _ (heads.stops_at _ _ _ c.length_at.ensures) c.type_check_expression-value.ensures.effect)

pub returns-clause-effect : goal.returns-clause-effect
returns-clause-effect c = rw (after_errors c.check_types_are_assignable.ensures.loans _) (laws.assignment_checked c.requires.fine_node.0 c.requires.fine_node.1 c.type_check_expression-target.ensures.effect _ (heads.stops_at _ _ _ c.length_at.ensures) c.type_check_expression-value.ensures.effect c.check_types_are_assignable.ensures.effect)
