-- Both loops: the cells counted, and those from here on, are those of the list; the inner one has the place of the next. The measure is the row
-- number.
use Prim.Native.Nat.{◌*◌, ◌-◌, ◌≤◌}
use mathlib.Core.Path.{◌≡◌}
use Rattle.types.proofs.Lists as lists
use Rattle.types.specs.Table.{row_width}
use Rattle.types.proofs.cell_count.Given as goal

abbrev pub invariant-loop-at-2 : goal.invariant-loop-at-2
invariant-loop-at-2 l = lists.Counted l.rows l.count l.cell l.at l.cells × (l.place ≡ row_width * l.at - row_width) × (l.at ≤ l.initial.at) × (1 ≤ l.at)

abbrev pub decreases-loop-at-2 : goal.decreases-loop-at-2
decreases-loop-at-2 l = l.at

abbrev pub invariant-loop-at : goal.invariant-loop-at
invariant-loop-at l = lists.Counted l.rows l.count l.cell l.at l.cells

abbrev pub decreases-loop-at : goal.decreases-loop-at
decreases-loop-at l = l.at
