use Prim.Native.Nat.{◌-◌}
use Rattle.names.proofs.NameLaws as laws
use Rattle.names.proofs.find_name.Given as goal

abbrev pub invariant-loop-next : goal.invariant-loop-next
invariant-loop-next l = laws.Finding l.s l.text l.end l.at l.count

abbrev pub decreases-loop-next : goal.decreases-loop-next
decreases-loop-next l = l.end - l.at
