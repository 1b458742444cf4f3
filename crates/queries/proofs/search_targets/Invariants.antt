use mathlib.Core.Path.{◌≡◌}
use Rattle.types.specs.Table.{IsType, unfolded}
use Rattle.queries.specs.CastSearch.{searched}
use Rattle.queries.proofs.PairLaws.{target_pairs}
use Rattle.queries.proofs.SearchLaws.{after}
use Rattle.queries.proofs.search_targets.Given as goal

abbrev pub invariant-loop-count : goal.invariant-loop-count
invariant-loop-count l =
    IsType l.rows l.count l.to
    × (after l.pairs (searched (target_pairs (unfolded l.rows l.source) (unfolded l.rows l.to))) ≡ after 1 (searched (target_pairs (unfolded l.rows l.source) (unfolded l.rows l.target))))

abbrev pub decreases-loop-count : goal.decreases-loop-count
decreases-loop-count l = l.to
