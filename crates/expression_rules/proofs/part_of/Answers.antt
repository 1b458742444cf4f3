-- A law for each exit.
use Rattle.expression_rules.proofs.Exits as exits
use Rattle.expression_rules.proofs.part_of.Goals as goal

pub returns-else-kind : goal.returns-else-kind
returns-else-kind c = search exits.part_none
