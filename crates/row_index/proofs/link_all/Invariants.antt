-- The loop: the first n rows are in their buckets.
use mathlib.Core.Path.{◌≡◌}
use Rattle.row_index.specs.Index.{with_rows}
use Rattle.row_index.proofs.link_all.Given as goal

abbrev pub invariant-loop-n : goal.invariant-loop-n
invariant-loop-n l = l.index ≡ with_rows l.initial.index l.rows 0 l.n
