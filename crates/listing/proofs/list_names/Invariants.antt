use Prim.Native.Nat.{◌-◌}
use Rattle.listing.proofs.Naming as laws
use Rattle.listing.proofs.list_names.Given as goal

abbrev pub invariant-loop-next : goal.invariant-loop-next
invariant-loop-next l = laws.Naming l.s l.end l.initial.places l.places l.at l.count

abbrev pub decreases-loop-next : goal.decreases-loop-next
decreases-loop-next l = l.end - l.at
