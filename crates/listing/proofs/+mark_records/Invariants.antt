use Prim.Native.Nat.{◌-◌}
use Rattle.listing.proofs.Marking as laws
use Rattle.listing.proofs.+mark_records.Given as goal

abbrev pub decreases-mark_records : goal.decreases-mark_records
decreases-mark_records l = l.depth

abbrev pub invariant-loop-next : goal.invariant-loop-next
invariant-loop-next l = laws.Marking l.s l.depth l.from l.end l.initial.marks l.marks l.at

abbrev pub decreases-loop-next : goal.decreases-loop-next
decreases-loop-next l = l.end - l.at
