-- The loop: the first items are written.
use Rattle.reorder.proofs.Arranging.{Arranging}
use Rattle.reorder.proofs.arrange.Given as goal

abbrev pub invariant-loop-at : goal.invariant-loop-at
invariant-loop-at l = Arranging l.s l.places l.initial.output l.output l.to l.at-index
