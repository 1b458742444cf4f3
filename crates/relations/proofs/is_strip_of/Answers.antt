use Rattle.relations.proofs.StripLaws.{strip_reached}
use Rattle.relations.proofs.is_strip_of.Goals as goal

pub returns-then-kind-eq-DISTINCT_ALIAS : goal.returns-then-kind-eq-DISTINCT_ALIAS
returns-then-kind-eq-DISTINCT_ALIAS c = search strip_reached
