use Prim.Native.Nat.{◌-◌}
use Rattle.name_index.proofs.IndexLaws as laws
use Rattle.name_index.proofs.repeated_name.Given as goal

abbrev pub invariant-loop-next : goal.invariant-loop-next
invariant-loop-next l = laws.Indexing l.s l.end l.at l.index

abbrev pub decreases-loop-next : goal.decreases-loop-next
decreases-loop-next l = l.end - l.at
