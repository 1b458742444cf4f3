-- A law for each exit.
use Rattle.expression_rules.proofs.Exits as exits
use Rattle.expression_rules.proofs.integer.Goals as goal

pub returns-in-Some : goal.returns-in-Some
returns-in-Some c = search exits.literal_read

pub returns-in-None : goal.returns-in-None
returns-in-None c = search exits.literal_none
