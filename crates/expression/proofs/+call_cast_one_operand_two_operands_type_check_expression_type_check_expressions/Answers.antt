use native.Mathlib.Omega.{arith}
use borrow.Author.Rules.{rules}
use Rattle.walk.proofs.Loans.{same_refl, same_then, after_output, after_leaf}
use Rattle.convert.proofs.Heads.{ready_later}
use Rattle.expression.proofs.Heads as heads
use Rattle.expression.proofs.Laws as laws
use Rattle.expression.proofs.Lists as lists
use Rattle.expression.proofs.+call_cast_one_operand_two_operands_type_check_expression_type_check_expressions.Goals as goal
use Rattle.expression.proofs.+call_cast_one_operand_two_operands_type_check_expression_type_check_expressions.Goals.{type_check_expression-in_default-via-then-head-lt38, type_check_expression-in_default-via-else-head-lt38+else-head-lt44}

pub call-overflow_sub-depth : goal.call-overflow_sub-depth
call-overflow_sub-depth t c = omega (arith, heads.deep c.requires.fine_node.0)

pub call-type_check_expression-target-requires : goal.call-type_check_expression-target-requires
call-type_check_expression-target-requires t c = (omega (arith, c.decreases, heads.deep c.requires.fine_node.0), (heads.target_fine c.requires.fine_node.0 c.requires.fine_node.1, c.requires.ready))

pub call-length_at-requires : goal.call-length_at-requires
call-length_at-requires t c = omega (arith, heads.slot_room (heads.target_fine c.requires.fine_node.0 c.requires.fine_node.1))

pub call-length_at-requires-2 : goal.call-length_at-requires-2
call-length_at-requires-2 t c = omega (arith, heads.slot_room c.requires.fine_node.0)

pub call-type_check_expressions-requires : goal.call-type_check_expressions-requires
call-type_check_expressions-requires t c = (omega (arith, c.decreases, heads.deep c.requires.fine_node.0), (heads.arguments_fine c.requires.fine_node.0 c.requires.fine_node.1 _ _ (heads.stops_at _ _ _ c.length_at.ensures) (heads.stops_at _ _ _ c.length_at-2.ensures), ready_later c.requires.ready c.type_check_expression-target.ensures.effect.walked.walked.grew c.type_check_expression-target.ensures.effect.walked.walked.frame.long))

pub call-call_result-ty-requires : goal.call-call_result-ty-requires
call-call_result-ty-requires t c = (omega (arith, heads.slot_room c.requires.fine_node.0), c.type_check_expressions.ensures.effect.filled, laws.one_type c.type_check_expressions.ensures.effect.walked.grew.good (laws.type_later c.type_check_expressions.ensures.effect.walked.grew c.type_check_expression-target.ensures.effect.walked.is))

pub call-put_slot-requires : goal.call-put_slot-requires
call-put_slot-requires t c = omega (arith, heads.slot_room c.requires.fine_node.0, c.requires.ready.long, c.type_check_expression-target.ensures.effect.walked.walked.frame.long, c.type_check_expressions.ensures.effect.walked.frame.long)

pub call-returns-clause-effect : goal.call-returns-clause-effect
call-returns-clause-effect t c =
    let rule = c.call_result-ty.ensures.loans in
    rw (after_output c.put_slot.ensures.loans _, rule.rows_kept, rule.index_kept) (lists.call_carried c.requires.fine_node.0 c.requires.fine_node.1 c.requires.ready c.type_check_expression-target.ensures.effect _ _ (heads.stops_at _ _ _ c.length_at.ensures) (heads.stops_at _ _ _ c.length_at-2.ensures) c.type_check_expressions.ensures.effect _ c.call_result-ty.ensures.effect _ (rw rule.output_kept at c.put_slot.ensures.effect))

pub cast-overflow_sub-depth : goal.cast-overflow_sub-depth
cast-overflow_sub-depth t c = omega (arith, heads.deep c.requires.fine_node.0)

pub cast-type_check_expression-value-requires : goal.cast-type_check_expression-value-requires
cast-type_check_expression-value-requires t c = (omega (arith, c.decreases, heads.deep c.requires.fine_node.0), (heads.value_fine c.requires.fine_node.0 c.requires.fine_node.1, c.requires.ready))

pub cast-length_at-requires : goal.cast-length_at-requires
cast-length_at-requires t c = omega (arith, heads.slot_room (heads.value_fine c.requires.fine_node.0 c.requires.fine_node.1))

pub cast-convert_node_type-ty-requires-clause-fine_node : goal.cast-convert_node_type-ty-requires-clause-fine_node
cast-convert_node_type-ty-requires-clause-fine_node t c = heads.cast_type_fine c.requires.fine_node.0 c.requires.fine_node.1 _ (heads.stops_at _ _ _ c.length_at.ensures)

pub cast-cast-requires : goal.cast-cast-requires
cast-cast-requires t c = (omega (arith, heads.slot_room c.requires.fine_node.0), laws.two_types c.convert_node_type-ty.ensures.effect.walked.walked.grew.good (laws.type_later c.convert_node_type-ty.ensures.effect.walked.walked.grew c.type_check_expression-value.ensures.effect.walked.is) c.convert_node_type-ty.ensures.effect.walked.is)

pub cast-put_slot-requires : goal.cast-put_slot-requires
cast-put_slot-requires t c = omega (arith, heads.slot_room c.requires.fine_node.0, c.requires.ready.long, c.type_check_expression-value.ensures.effect.walked.walked.frame.long, c.convert_node_type-ty.ensures.effect.walked.walked.frame.long)

pub cast-returns-clause-effect : goal.cast-returns-clause-effect
cast-returns-clause-effect t c =
    let rule = c.cast.ensures.loans in
    rw (after_output c.put_slot.ensures.loans _, rule.rows_kept, rule.index_kept) (laws.cast_carried c.requires.fine_node.0 c.requires.fine_node.1 c.requires.ready c.type_check_expression-value.ensures.effect _ (heads.stops_at _ _ _ c.length_at.ensures) c.convert_node_type-ty.ensures.effect _ c.cast.ensures.effect _ (rw rule.output_kept at c.put_slot.ensures.effect))

pub one_operand-unary-ty-requires-clause-at_in_bounds : goal.one_operand-unary-ty-requires-clause-at_in_bounds
one_operand-unary-ty-requires-clause-at_in_bounds t c = (omega (arith, c.requires.one_operand_in.slot, heads.slot_room c.requires.one_operand_in.operand), laws.one_type c.type_check_expression-operand.ensures.effect.walked.walked.grew.good c.type_check_expression-operand.ensures.effect.walked.is)

pub one_operand-returns-clause-effect : goal.one_operand-returns-clause-effect
one_operand-returns-clause-effect t c =
    let rule = c.unary-ty.ensures.loans in
    rw (after_output c.put_slot.ensures.loans _) (laws.one_operand_carried c.requires.one_operand_in c.requires.ready (rw c.inside.ensures at c.type_check_expression-operand.ensures.effect) _ c.unary-ty.ensures.effect _ (rw rule.output_kept at c.put_slot.ensures.effect))

pub two_operands-length_at-requires : goal.two_operands-length_at-requires
two_operands-length_at-requires t c = omega (arith, heads.slot_room c.requires.two_operands_in.left)

pub two_operands-binary-ty-requires : goal.two_operands-binary-ty-requires
two_operands-binary-ty-requires t c = (omega (arith, c.requires.two_operands_in.slot, heads.slot_room c.requires.two_operands_in.left), omega (arith, heads.slot_room (heads.fine_at (heads.stops_at _ _ _ c.length_at.ensures) c.requires.two_operands_in.right)), laws.two_types c.type_check_expression-right.ensures.effect.walked.walked.grew.good (laws.type_later c.type_check_expression-right.ensures.effect.walked.walked.grew c.type_check_expression-left.ensures.effect.walked.is) c.type_check_expression-right.ensures.effect.walked.is)

pub two_operands-returns-clause-effect : goal.two_operands-returns-clause-effect
two_operands-returns-clause-effect t c =
    let rule = c.binary-ty.ensures.loans in
    rw (after_output c.put_slot.ensures.loans _, rule.rows_kept, rule.index_kept) (laws.two_operands_carried c.requires.two_operands_in c.requires.ready c.type_check_expression-left.ensures.effect _ (heads.stops_at _ _ _ c.length_at.ensures) c.type_check_expression-right.ensures.effect _ c.binary-ty.ensures.effect _ (rw rule.output_kept at c.put_slot.ensures.effect))

pub type_check_expression-half-kind-requires : goal.type_check_expression-half-kind-requires
type_check_expression-half-kind-requires t c = omega (arith, heads.slot_room c.requires.fine_node)

pub type_check_expression-returns-then-kind-le-STRING-clause-effect : goal.type_check_expression-returns-then-kind-le-STRING-clause-effect
type_check_expression-returns-then-kind-le-STRING-clause-effect t c = rw (after_leaf c.leaf.ensures.loans _) (c.leaf.ensures.effect _ _ _ c.requires.ready)

pub type_check_expression-one_operand-requires : goal.type_check_expression-one_operand-requires
type_check_expression-one_operand-requires t c = (omega (arith, c.decreases), (heads.one_operand_in c.enter-head.ensures (heads.one_operand_lem c.requires.fine_node c.enter-head.ensures.opened (omega arith) (omega arith)), c.requires.ready))

pub type_check_expression-two_operands-requires : goal.type_check_expression-two_operands-requires
type_check_expression-two_operands-requires t c =
    elim c.in_default.branch [
      | type_check_expression-in_default-via-then-head-lt38 w ↦
          (omega (arith, c.decreases), (heads.two_operands_in c.enter-head.ensures (heads.index_operands c.requires.fine_node c.enter-head.ensures.opened (omega (arith, c.half-kind.ensures.is, c.enter-head.ensures.opened.kinds, c.if-kind-le-STRING.false))), c.requires.ready))
      | type_check_expression-in_default-via-else-head-lt38+else-head-lt44 w ↦
          (omega (arith, c.decreases), (heads.two_operands_in c.enter-head.ensures (heads.two_operands c.requires.fine_node c.enter-head.ensures.opened (omega arith) (heads.operator_high c.requires.fine_node c.enter-head.ensures.opened (search rules))), c.requires.ready))
    ]

pub type_check_expressions-loop-at-init : goal.type_check_expressions-loop-at-init
type_check_expressions-loop-at-init t c = (lists.checking_start _ _ _ _ c.requires.fine_nodes c.requires.ready, same_refl _)

pub type_check_expressions-type_check_expression-requires : goal.type_check_expressions-type_check_expression-requires
type_check_expressions-type_check_expression-requires t c = (omega (arith, c.decreases), (lists.first_fine _ _ _ _ c.loop-at.invariant.0 c.loop-at-test.true, c.loop-at.invariant.0.ready))

pub type_check_expressions-length_at-at-requires : goal.type_check_expressions-length_at-at-requires
type_check_expressions-length_at-at-requires t c = omega (arith, heads.slot_room (lists.first_fine _ _ _ _ c.loop-at.invariant.0 c.loop-at-test.true))

pub type_check_expressions-loop-at-smaller : goal.type_check_expressions-loop-at-smaller
type_check_expressions-loop-at-smaller t c = omega (arith, lists.first_long _ _ _ _ c.loop-at.invariant.0 c.loop-at-test.true, c.loop-at-test.true, c.length_at-at.ensures.is)

pub type_check_expressions-loop-at-preserved : goal.type_check_expressions-loop-at-preserved
type_check_expressions-loop-at-preserved t c = (lists.checking_on _ _ _ _ c.loop-at.invariant.0 c.loop-at-test.true c.type_check_expression.ensures.effect _ (heads.stops_at _ _ _ c.length_at-at.ensures), same_then c.loop-at.invariant.1 c.type_check_expression.ensures.loans)

pub type_check_expressions-returns-clause-effect : goal.type_check_expressions-returns-clause-effect
type_check_expressions-returns-clause-effect t c = lists.checking_done _ _ _ _ c.loop-at.invariant.0 c.loop-at-test.false
