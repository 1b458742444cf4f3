-- A law for each exit.
use Rattle.expression_rules.proofs.Exits as exits
use Rattle.expression_rules.proofs.computes.Goals as goal

pub returns-then-is_integral : goal.returns-then-is_integral
returns-then-is_integral c = search exits.computes_integers
