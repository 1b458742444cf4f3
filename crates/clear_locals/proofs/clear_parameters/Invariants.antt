-- The loop: what is left to clear clears the whole.
use Prim.Native.Nat.{◌-◌}
use Rattle.clear_locals.proofs.Walks as laws
use Rattle.clear_locals.proofs.clear_parameters.Given as goal

abbrev pub invariant-loop-at : goal.invariant-loop-at
invariant-loop-at l = laws.ClearingParameters l.s l.parameters.depth l.parameters.from l.parameters.end l.initial.work l.at l.work

abbrev pub decreases-loop-at : goal.decreases-loop-at
decreases-loop-at l = l.parameters.end - l.at
