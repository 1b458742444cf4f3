-- The measure is four times the levels left, and a rank: a list, then an expression, then the function of its shape.
-- The loop: what is left to do does what is left of the whole.
use Rattle.std.proofs.Common.{◌-◌, ◌+◌, ◌*◌}
use Rattle.walk.specs.Moments.{moment}
use Rattle.walk.specs.Loans.{SameLoans}
use Rattle.expression.proofs.Lists as lists
use Rattle.expression.proofs.+call_cast_one_operand_two_operands_type_check_expression_type_check_expressions.Given as goal

abbrev pub decreases-call : goal.decreases-call
decreases-call l = 4 * l.node.depth + 1

abbrev pub decreases-cast : goal.decreases-cast
decreases-cast l = 4 * l.node.depth + 1

abbrev pub decreases-one_operand : goal.decreases-one_operand
decreases-one_operand l = 4 * l.head.depth + 1

abbrev pub decreases-two_operands : goal.decreases-two_operands
decreases-two_operands l = 4 * l.head.depth + 1

abbrev pub decreases-type_check_expression : goal.decreases-type_check_expression
decreases-type_check_expression l = 4 * l.node.depth + 2

abbrev pub decreases-type_check_expressions : goal.decreases-type_check_expressions
decreases-type_check_expressions l = 4 * l.list.depth + 3

abbrev pub invariant-type_check_expressions-loop-at : goal.invariant-type_check_expressions-loop-at
invariant-type_check_expressions-loop-at l =
    lists.Checking l.s l.names l.depth l.list.end l.initial.at (moment l.work l.initial.walk) l.at (moment l.work l.walk) × SameLoans l.initial.walk l.walk

abbrev pub decreases-type_check_expressions-loop-at : goal.decreases-type_check_expressions-loop-at
decreases-type_check_expressions-loop-at l = l.list.end - l.at
