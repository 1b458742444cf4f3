use native.Mathlib.Omega.{arith}
use Rattle.declare.proofs.Items as laws
use Rattle.declare.proofs.declare_item.Goals as goal

pub half-requires : goal.half-requires
half-requires c = omega (arith, laws.item_room _ _ _ c.requires.fine_node)

pub returns-in_default-clause-effect : goal.returns-in_default-clause-effect
returns-in_default-clause-effect c = search laws.other_declared
