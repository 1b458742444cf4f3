-- The loop: the words that were passed are stored, and no other is changed.
use Rattle.types.specs.Table.{fixed_length}
use Rattle.types.proofs.Fixed as fixed
use Prim.Native.Nat.{◌≤◌, ◌-◌}
use Rattle.types.proofs.put_fixed_rows.Given as goal

abbrev pub invariant-loop-i : goal.invariant-loop-i
invariant-loop-i l = (l.i ≤ fixed_length) × fixed.Copied l.initial.rows l.i l.rows

abbrev pub decreases-loop-i : goal.decreases-loop-i
decreases-loop-i l = fixed_length - l.i
