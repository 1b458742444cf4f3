use mathlib.Core.Path.{refl}
use Rattle.queries.proofs.SearchLaws.{targets_room, targets_hit, targets_end, targets_on}
use Rattle.queries.proofs.search_targets.Goals as goal

pub loop-count-init : goal.loop-count-init
loop-count-init c = (c.requires.second, refl)

pub returns-then-cast_fits : goal.returns-then-cast_fits
returns-then-cast_fits c = search targets_hit

pub returns-then-kind-ne-DISTINCT_ALIAS : goal.returns-then-kind-ne-DISTINCT_ALIAS
returns-then-kind-ne-DISTINCT_ALIAS c = search targets_end

pub overflow_add-pairs : goal.overflow_add-pairs
overflow_add-pairs c = record { fits = search targets_room }

pub loop-count-preserved : goal.loop-count-preserved
loop-count-preserved c = (c.part-to.ensures.is, search targets_on)
