-- The loop: the parameters before `at` are checked.
use Prim.Native.Nat.{◌-◌}
use Rattle.walk.specs.Moments.{moment}
use Rattle.walk.specs.Loans.{SameLoans}
use Rattle.items.proofs.Parameters as laws
use Rattle.items.proofs.type_check_parameters.Given as goal

abbrev pub invariant-loop-at : goal.invariant-loop-at
invariant-loop-at l = laws.Entering l.s l.pass.names l.list.depth l.list.from l.list.end l.at (moment l.initial.work l.initial.walk) (moment l.work l.walk) × SameLoans l.initial.walk l.walk

abbrev pub decreases-loop-at : goal.decreases-loop-at
decreases-loop-at l = l.list.end - l.at
