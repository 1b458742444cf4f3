-- A law for each exit.
use Rattle.expression_rules.proofs.Exits as exits
use Rattle.expression_rules.proofs.binary.Goals as goal

pub returns-in_default : goal.returns-in_default
returns-in_default c = search exits.compared
