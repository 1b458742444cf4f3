use Rattle.std.proofs.Common.{◌+◌, ◌-◌, ◌*◌}
use Rattle.meaning.specs.Divergence.{do_all_paths_diverge}
use Rattle.divergence.proofs.Walk as laws
use Rattle.divergence.proofs.+any_path_diverges_do_all_paths_diverge.Given as goal

abbrev pub decreases-do_all_paths_diverge : goal.decreases-do_all_paths_diverge
decreases-do_all_paths_diverge l = l.node.depth * 2

abbrev pub decreases-any_path_diverges : goal.decreases-any_path_diverges
decreases-any_path_diverges l = l.statements.depth * 2 + 1

abbrev pub invariant-any_path_diverges-loop-at : goal.invariant-any_path_diverges-loop-at
invariant-any_path_diverges-loop-at l = laws.Scanned do_all_paths_diverge l.s l.depth l.statements.from l.statements.end l.at

abbrev pub decreases-any_path_diverges-loop-at : goal.decreases-any_path_diverges-loop-at
decreases-any_path_diverges-loop-at l = l.statements.end - l.at
