-- Both loops: what the list has of that name, it has from here on; the inner one has the place of the next cell. The measure is the row number.
use Prim.Native.Nat.{◌*◌, ◌-◌, ◌≤◌}
use mathlib.Core.Path.{◌≡◌}
use Rattle.types.proofs.Lists as lists
use Rattle.types.specs.Ty.{first_of, field_named}
use Rattle.types.specs.Table.{row_width, unfolded}
use Rattle.types.proofs.field_named.Given as goal

abbrev pub invariant-loop-row : goal.invariant-loop-row
invariant-loop-row l = lists.Seeking l.rows l.count l.name (field_named l.name (first_of (unfolded l.rows l.n))) l.cell × (l.place ≡ row_width * l.cell - row_width) × (l.cell ≤ l.initial.cell) × (1 ≤ l.cell)

abbrev pub decreases-loop-row : goal.decreases-loop-row
decreases-loop-row l = l.cell

abbrev pub invariant-loop-cell : goal.invariant-loop-cell
invariant-loop-cell l = lists.Seeking l.rows l.count l.name (field_named l.name (first_of (unfolded l.rows l.n))) l.cell

abbrev pub decreases-loop-cell : goal.decreases-loop-cell
decreases-loop-cell l = l.cell
