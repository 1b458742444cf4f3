use native.Mathlib.Omega.{arith}
use Rattle.items.proofs.Bodies.{body_fine}
use Rattle.items.proofs.Locals as laws
use Rattle.items.proofs.clear_function.Goals as goal

pub returns-else-body-parameters : goal.returns-else-body-parameters
returns-else-body-parameters c = laws.parameters_cleared c.requires.body_left _ c.clear_parameters.ensures c.if-body-parameters.false

pub clear_statement-requires : goal.clear_statement-requires
clear_statement-requires c = record { fine_node = body_fine c.requires.body_left c.if-body-parameters.true; s_in_bounds = omega (arith, c.requires.s_in_bounds, c.clear_parameters.auto) }

pub returns-then-body-parameters : goal.returns-then-body-parameters
returns-then-body-parameters c = laws.body_cleared c.requires.body_left _ c.clear_parameters.ensures c.if-body-parameters.true c.clear_statement.ensures
