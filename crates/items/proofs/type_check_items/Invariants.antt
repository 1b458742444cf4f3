-- The loop: what is left to do does what is left of the whole.
use Prim.Native.Nat.{◌-◌}
use Rattle.walk.specs.Moments.{moment}
use Rattle.walk.specs.Loans.{SameLoans}
use Rattle.items.proofs.Items as laws
use Rattle.items.proofs.type_check_items.Given as goal

abbrev pub invariant-loop-at : goal.invariant-loop-at
invariant-loop-at l = laws.Checking l.s l.names l.depth l.list.end l.initial.at l.at (moment l.initial.work l.initial.walk) (moment l.work l.walk) × SameLoans l.initial.walk l.walk

abbrev pub decreases-loop-at : goal.decreases-loop-at
decreases-loop-at l = l.list.end - l.at
