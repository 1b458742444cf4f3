use native.Mathlib.Omega.{arith}
use mathlib.Core.Path.{ap}
use Rattle.clear_locals.proofs.Walks as laws
use Prim.Native.Nat.{◌+◌}
use Rattle.clear_locals.proofs.+clear_block_clear_statement.Goals as goal

pub clear_block-clear_statement-requires : goal.clear_block-clear_statement-requires
clear_block-clear_statement-requires t c = (omega arith, (laws.block_first c.loop-at.invariant c.loop-at-test.true, omega (arith, c.requires.s_in_bounds, c.loop-at.invariant.wide)))

pub clear_block-length_at-at-requires : goal.clear_block-length_at-at-requires
clear_block-length_at-at-requires t c = let b = laws.block_bounds c.loop-at.invariant c.loop-at-test.true in omega (arith, b.head, b.stop)

pub clear_block-loop-at-smaller : goal.clear_block-loop-at-smaller
clear_block-loop-at-smaller t c = let b = laws.block_bounds c.loop-at.invariant c.loop-at-test.true in omega (arith, b.head, c.loop-at-test.true, c.length_at-at.ensures.is)

pub clear_block-loop-at-preserved : goal.clear_block-loop-at-preserved
clear_block-loop-at-preserved t c = laws.block_on c.loop-at.invariant c.loop-at-test.true c.clear_statement.ensures (ap (λ x. c.loop-at.at + x) c.length_at-at.ensures.is)

pub clear_block-returns : goal.clear_block-returns
clear_block-returns t c = laws.block_done c.loop-at.invariant c.loop-at-test.false

pub clear_statement-word-name-requires : goal.clear_statement-word-name-requires
clear_statement-word-name-requires t c = let r = laws.variable_named c.requires.fine_node c.inner_statements-inner.ensures c.if-inner-eq-VARIABLE_DECLARATION.true in omega (arith, r.bytes)

pub clear_statement-set_word-requires : goal.clear_statement-set_word-requires
clear_statement-set_word-requires t c = let r = laws.variable_named c.requires.fine_node c.inner_statements-inner.ensures c.if-inner-eq-VARIABLE_DECLARATION.true in omega (arith, r.named, c.word-name.ensures.is, c.requires.s_in_bounds)

pub clear_statement-returns-then-inner-eq-VARIABLE_DECLARATION : goal.clear_statement-returns-then-inner-eq-VARIABLE_DECLARATION
clear_statement-returns-then-inner-eq-VARIABLE_DECLARATION t c = laws.variable_cleared c.requires.fine_node c.inner_statements-inner.ensures c.if-inner-eq-VARIABLE_DECLARATION.true c.word-name.ensures _ c.set_word.ensures

pub clear_statement-returns : goal.clear_statement-returns
clear_statement-returns t c = let o = c.inner_statements-inner.ensures in let f = c.requires.fine_node in laws.others_cleared f o c.if-inner-eq-VARIABLE_DECLARATION.false c.children.ensures _ c.clear_block.ensures
