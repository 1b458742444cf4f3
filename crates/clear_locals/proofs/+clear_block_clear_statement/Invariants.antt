-- The measure is twice the levels left, and one more for a block. The loop: what is left to clear clears the whole.
use Rattle.clear_locals.proofs.Walks as laws
use Prim.Native.Nat.{◌+◌, ◌-◌, ◌*◌}
use Rattle.clear_locals.proofs.+clear_block_clear_statement.Given as goal

abbrev pub decreases-clear_block : goal.decreases-clear_block
decreases-clear_block l = 2 * l.statements.depth + 1

abbrev pub decreases-clear_statement : goal.decreases-clear_statement
decreases-clear_statement l = 2 * l.node.depth

abbrev pub invariant-clear_block-loop-at : goal.invariant-clear_block-loop-at
invariant-clear_block-loop-at l = laws.ClearingBlock l.s l.depth l.statements.from l.statements.end l.initial.work l.at l.work

abbrev pub decreases-clear_block-loop-at : goal.decreases-clear_block-loop-at
decreases-clear_block-loop-at l = l.statements.end - l.at
