use Rattle.std.proofs.Common.{◌+◌, ◌-◌, ◌*◌}
use Rattle.meaning.specs.Divergence.{find_break}
use Rattle.divergence.proofs.Walk as laws
use Rattle.divergence.proofs.+find_break_find_break_in.Given as goal

abbrev pub decreases-find_break : goal.decreases-find_break
decreases-find_break l = l.node.depth * 2

abbrev pub decreases-find_break_in : goal.decreases-find_break_in
decreases-find_break_in l = l.statements.depth * 2 + 1

abbrev pub invariant-find_break_in-loop-at : goal.invariant-find_break_in-loop-at
invariant-find_break_in-loop-at l = laws.Scanned find_break l.s l.depth l.statements.from l.statements.end l.at

abbrev pub decreases-find_break_in-loop-at : goal.decreases-find_break_in-loop-at
decreases-find_break_in-loop-at l = l.statements.end - l.at
