use Prim.Native.Nat.{◌-◌}
use Rattle.walk.specs.Moments.{moment}
use Rattle.walk.specs.Loans.{SameLoans}
use Rattle.declare.proofs.Lists as laws
use Rattle.declare.proofs.declare_items.Given as goal

abbrev pub invariant-loop-at : goal.invariant-loop-at
invariant-loop-at l = laws.DeclaredTo l.s l.names l.depth l.list.from l.list.end l.at (moment l.initial.work l.initial.walk) (moment l.work l.walk) × SameLoans l.initial.walk l.walk

abbrev pub decreases-loop-at : goal.decreases-loop-at
decreases-loop-at l = l.list.end - l.at
