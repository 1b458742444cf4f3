-- A law for each exit.
use Rattle.expression_rules.proofs.Exits as exits
use Rattle.expression_rules.proofs.check_types_are_assignable.Goals as goal

pub returns : goal.returns
returns c = search exits.assigned
