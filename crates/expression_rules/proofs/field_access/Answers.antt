-- A law for each exit.
use Rattle.expression_rules.proofs.Exits as exits
use Rattle.expression_rules.proofs.field_access.Goals as goal

pub returns-then-kind-ne-STRUCT : goal.returns-then-kind-ne-STRUCT
returns-then-kind-ne-STRUCT c = search exits.no_struct

pub returns : goal.returns
returns c = search exits.field_found
