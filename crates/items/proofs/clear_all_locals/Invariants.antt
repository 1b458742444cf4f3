-- The loop: the words before `i` are done.
use Rattle.items.proofs.Locals as laws
use Prim.Native.Nat.{◌%◌}
use mathlib.Core.Path.{◌≡◌}
use Rattle.items.proofs.clear_all_locals.Given as goal

abbrev pub invariant-loop-i : goal.invariant-loop-i
invariant-loop-i l = laws.Clearing l.initial.work l.i l.work × (l.i % 4 ≡ 2)
