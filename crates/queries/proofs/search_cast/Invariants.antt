use mathlib.Core.Path.{◌≡◌}
use Rattle.types.specs.Table.{IsType, unfolded}
use Rattle.queries.specs.CastSearch.{cast_search}
use Rattle.queries.proofs.SearchLaws.{after}
use Rattle.queries.proofs.search_cast.Given as goal

abbrev pub invariant-loop-count : goal.invariant-loop-count
invariant-loop-count l = IsType l.rows l.count l.from × (after l.before (cast_search (unfolded l.rows l.from) (unfolded l.rows l.target)) ≡ cast_search (unfolded l.rows l.source) (unfolded l.rows l.target))

abbrev pub decreases-loop-count : goal.decreases-loop-count
decreases-loop-count l = l.from
