-- Both loops: what is left of the row reached is what is left of row n; the inner one has its place. A row points only to lower rows, so its
-- number is the measure.
use Prim.Native.Nat.{◌*◌, ◌-◌, ◌≤◌}
use mathlib.Core.Path.{◌≡◌}
use Rattle.types.proofs.Query as query
use Rattle.types.specs.Table.{row_width}
use Rattle.types.proofs.strip_until.Given as goal

abbrev pub invariant-loop-row-2 : goal.invariant-loop-row-2
invariant-loop-row-2 g l = query.Stripping l.rows l.count l.n (goal.F-post g l.stops) l.at × (l.place ≡ row_width * l.at - row_width) × (l.at ≤ l.initial.at)

abbrev pub decreases-loop-row-2 : goal.decreases-loop-row-2
decreases-loop-row-2 g l = l.at

abbrev pub invariant-loop-row : goal.invariant-loop-row
invariant-loop-row g l = query.Stripping l.rows l.count l.n (goal.F-post g l.stops) l.at

abbrev pub decreases-loop-row : goal.decreases-loop-row
decreases-loop-row g l = l.at
