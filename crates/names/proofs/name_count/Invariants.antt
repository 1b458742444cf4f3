use Prim.Native.Nat.{◌-◌}
use Rattle.names.proofs.NameLaws as laws
use Rattle.names.proofs.name_count.Given as goal

abbrev pub invariant-loop-next : goal.invariant-loop-next
invariant-loop-next l = laws.Passed l.s l.end l.at l.count

abbrev pub decreases-loop-next : goal.decreases-loop-next
decreases-loop-next l = l.end - l.at
