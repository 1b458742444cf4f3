use Rattle.items.proofs.Items as laws
use native.Mathlib.Omega.{arith}
use Rattle.items.proofs.type_check_item.Goals as goal

pub half-requires : goal.half-requires
half-requires c = omega (arith, laws.item_room c.requires.fine_node)

pub returns-in_default-clause-effect : goal.returns-in_default-clause-effect
returns-in_default-clause-effect c = search laws.other_checked
