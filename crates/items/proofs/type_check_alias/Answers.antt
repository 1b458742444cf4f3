use native.Mathlib.Omega.{arith}
use Rattle.items.proofs.Items as laws
use Rattle.items.proofs.type_check_alias.Goals as goal

pub overflow_sub-first : goal.overflow_sub-first
overflow_sub-first c = omega (arith, (laws.alias c.requires.fine_node.0 c.requires.fine_node.1).room.deep)

pub convert_node_type-requires : goal.convert_node_type-requires
convert_node_type-requires c = record { fine_node = (laws.alias c.requires.fine_node.0 c.requires.fine_node.1).type; ready = c.requires.ready }

pub returns-clause-effect : goal.returns-clause-effect
returns-clause-effect c = laws.alias_checked c.requires.fine_node.0 c.requires.fine_node.1 c.convert_node_type.ensures.effect
