-- The loop: what is left to do does what is left of the whole.
use Prim.Native.Nat.{◌-◌}
use Rattle.walk.specs.Moments.{moment}
use Rattle.walk.specs.Loans.{SameLoans}
use Rattle.compound.proofs.Fields as laws
use Rattle.compound.proofs.type_check_fields.Given as goal

abbrev pub invariant-loop-at : goal.invariant-loop-at
invariant-loop-at l = laws.Checking l.s l.names l.list.depth l.list.end l.initial.at (moment l.work l.initial.walk) l.at (moment l.work l.walk) × SameLoans l.initial.walk l.walk

abbrev pub decreases-loop-at : goal.decreases-loop-at
decreases-loop-at l = l.list.end - l.at
