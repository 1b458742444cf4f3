use native.Mathlib.Omega.{arith}
use Rattle.walk.proofs.Loans.{same_refl, same_then}
use Rattle.expression.proofs.Heads as heads
use Rattle.statement.proofs.Blocks as blocks
use Rattle.statement.proofs.+type_check_block_type_check_statement.Goals as goal

pub type_check_block-loop-at-init : goal.type_check_block-loop-at-init
type_check_block-loop-at-init t c = (blocks.checking_start _ _ _ _ _ c.requires.fine_nodes c.requires.ready c.requires.one_type, same_refl _)

pub type_check_block-type_check_statement-requires : goal.type_check_block-type_check_statement-requires
type_check_block-type_check_statement-requires t c = (omega arith, (blocks.first_fine _ _ _ _ _ c.loop-at.invariant.0 c.loop-at-test.true, (c.loop-at.invariant.0.ready, c.loop-at.invariant.0.type)))

pub type_check_block-length_at-at-requires : goal.type_check_block-length_at-at-requires
type_check_block-length_at-at-requires t c = omega (arith, (blocks.first_bounds _ _ _ _ _ c.loop-at.invariant.0 c.loop-at-test.true).head, (blocks.first_bounds _ _ _ _ _ c.loop-at.invariant.0 c.loop-at-test.true).stop)

pub type_check_block-loop-at-smaller : goal.type_check_block-loop-at-smaller
type_check_block-loop-at-smaller t c = omega (arith, (blocks.first_bounds _ _ _ _ _ c.loop-at.invariant.0 c.loop-at-test.true).head, c.loop-at-test.true, c.length_at-at.ensures.is)

pub type_check_block-loop-at-preserved : goal.type_check_block-loop-at-preserved
type_check_block-loop-at-preserved t c = (blocks.checking_on _ _ _ _ _ c.loop-at.invariant.0 c.loop-at-test.true c.type_check_statement.ensures.effect _ (heads.stops_at _ _ _ c.length_at-at.ensures), same_then c.loop-at.invariant.1 c.type_check_statement.ensures.loans)

pub type_check_block-returns-clause-effect : goal.type_check_block-returns-clause-effect
type_check_block-returns-clause-effect t c = blocks.checking_done _ _ _ _ _ c.loop-at.invariant.0 c.loop-at-test.false

pub type_check_statement-returns-clause-effect : goal.type_check_statement-returns-clause-effect
type_check_statement-returns-clause-effect t c = blocks.own_node c.inner_statements-inner.ensures (c.own_parts.ensures.effect.rest _ (rw c.children.ensures at c.type_check_block.ensures.effect))
