use Rattle.queries.proofs.SearchLaws.{after_none, cast_room, cast_hit, cast_end, cast_on}
use Rattle.queries.proofs.search_cast.Goals as goal

pub loop-count-init : goal.loop-count-init
loop-count-init c = (c.requires.first, search after_none)

pub overflow_add-pairs : goal.overflow_add-pairs
overflow_add-pairs c = record { fits = search cast_room }

pub returns-then-found : goal.returns-then-found
returns-then-found c = search cast_hit

pub returns-then-kind-ne-DISTINCT_ALIAS : goal.returns-then-kind-ne-DISTINCT_ALIAS
returns-then-kind-ne-DISTINCT_ALIAS c = search cast_end

pub loop-count-preserved : goal.loop-count-preserved
loop-count-preserved c = (c.part-from.ensures.is, search cast_on)
