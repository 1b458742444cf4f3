use mathlib.Core.Path.{◌≡◌}
use Rattle.types.specs.Table.{IsType, unfolded}
use Rattle.relations.specs.Relations.{types_are_assignable}
use Rattle.relations.proofs.types_are_assignable.Given as goal

abbrev pub invariant-loop-to : goal.invariant-loop-to
invariant-loop-to l = IsType l.rows l.count l.to × IsType l.rows l.count l.from × (types_are_assignable (unfolded l.rows l.to) (unfolded l.rows l.from) ≡ types_are_assignable (unfolded l.rows l.target) (unfolded l.rows l.source))

abbrev pub decreases-loop-to : goal.decreases-loop-to
decreases-loop-to l = l.to
