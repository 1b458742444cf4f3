-- A law for each exit.
use Rattle.compound_rules.proofs.Repeats as repeats
use Rattle.compound_rules.proofs.struct_compound.Goals as goal

pub returns-then-kind-ne-STRUCT : goal.returns-then-kind-ne-STRUCT
returns-then-kind-ne-STRUCT c = search repeats.no_struct

pub returns : goal.returns
returns c = search repeats.struct_filled
