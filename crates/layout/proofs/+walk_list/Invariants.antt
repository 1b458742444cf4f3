use Prim.Native.Nat.{◌-◌}
use Rattle.layout.proofs.LayoutLaws as laws
use Rattle.layout.proofs.+walk_list.Given as goal

abbrev pub decreases-walk_list : goal.decreases-walk_list
decreases-walk_list l = l.depth

abbrev pub invariant-loop-due : goal.invariant-loop-due
invariant-loop-due l = laws.Walking l.names l.s l.depth l.from l.end l.initial.state l.at l.state

abbrev pub decreases-loop-due : goal.decreases-loop-due
decreases-loop-due l = l.end - l.at
