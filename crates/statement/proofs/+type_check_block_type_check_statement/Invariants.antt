-- The measure is twice the levels left, and one more for a block. The loop: what is left to do does what is left of the whole.
use Prim.Native.Nat.{◌+◌, ◌-◌, ◌*◌}
use Rattle.walk.specs.Moments.{moment}
use Rattle.walk.specs.Loans.{SameLoans}
use Rattle.statement.proofs.Blocks as blocks
use Rattle.statement.proofs.+type_check_block_type_check_statement.Given as goal

abbrev pub decreases-type_check_block : goal.decreases-type_check_block
decreases-type_check_block l = 2 * l.list.depth + 1

abbrev pub decreases-type_check_statement : goal.decreases-type_check_statement
decreases-type_check_statement l = 2 * l.node.depth

abbrev pub invariant-type_check_block-loop-at : goal.invariant-type_check_block-loop-at
invariant-type_check_block-loop-at l = blocks.Checking l.s l.function.names l.depth l.list.end l.function.returned l.initial.at (moment l.initial.work l.initial.walk) l.at (moment l.work l.walk) × SameLoans l.initial.walk l.walk

abbrev pub decreases-type_check_block-loop-at : goal.decreases-type_check_block-loop-at
decreases-type_check_block-loop-at l = l.list.end - l.at
