-- The loop: the items before `at` are listed.
use mathlib.Core.Path.{◌≡◌}
use Prim.Native.Nat.{◌-◌}
use lib.ListN.{length}
use Rattle.reorder.proofs.Listing.{Listing}
use Rattle.reorder.proofs.list_items.Given as goal

abbrev pub invariant-loop-at : goal.invariant-loop-at
invariant-loop-at l = Listing l.s l.places l.at l.count × (length l.places ≡ length l.initial.places)

abbrev pub decreases-loop-at : goal.decreases-loop-at
decreases-loop-at l = length l.s - l.at
