use native.Mathlib.Omega.{arith}
use Rattle.expression.proofs.Heads as heads
use Rattle.convert.proofs.Heads.{ready_later}
use Rattle.expression.proofs.Laws.{one_type}
use Rattle.statement.proofs.Own as laws
use Rattle.divergence.proofs.Walk.{bounds}
use Rattle.statement.proofs.compound_assignment.Goals as goal

pub overflow_sub-depth : goal.overflow_sub-depth
overflow_sub-depth c = omega (arith, (bounds _ _ _ _ _ c.requires.fine_node.0).deep)

pub type_check_expression-target-requires : goal.type_check_expression-target-requires
type_check_expression-target-requires c = record { fine_node = laws.compound_target_fine c.requires.fine_node.0 c.requires.fine_node.1; ready = c.requires.ready }

pub length_at-requires : goal.length_at-requires
length_at-requires c = omega (arith, heads.slot_room (laws.compound_target_fine c.requires.fine_node.0 c.requires.fine_node.1))

pub type_check_compound_assignment-requires : goal.type_check_compound_assignment-requires
type_check_compound_assignment-requires c = record { fine_node = laws.compound_fine c.requires.fine_node.0 c.requires.fine_node.1 _ (heads.stops_at _ _ _ c.length_at.ensures); ready = ready_later c.requires.ready c.type_check_expression-target.ensures.effect.walked.walked.grew c.type_check_expression-target.ensures.effect.walked.walked.frame.long; one_type = one_type c.type_check_expression-target.ensures.effect.walked.walked.grew.good c.type_check_expression-target.ensures.effect.walked.is }

pub returns-clause-effect : goal.returns-clause-effect
returns-clause-effect c = laws.compound_assignment_checked c.requires.fine_node.0 c.requires.fine_node.1 c.type_check_expression-target.ensures.effect _ (heads.stops_at _ _ _ c.length_at.ensures) c.type_check_compound_assignment.ensures.effect
