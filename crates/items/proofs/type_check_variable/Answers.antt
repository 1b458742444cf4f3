use Rattle.items.proofs.Items as laws
use Rattle.convert.proofs.Heads.{ready_later}
use Rattle.expression.proofs.Laws.{one_type}
use Rattle.expression.proofs.Heads as heads
use mathlib.Core.Path.{refl}
use native.Mathlib.Omega.{arith}
use Rattle.items.proofs.type_check_variable.Goals as goal

pub length_at-requires : goal.length_at-requires
length_at-requires c = omega (arith, laws.item_room c.requires.fine_node.0)

pub overflow_sub-depth : goal.overflow_sub-depth
overflow_sub-depth c = omega (arith, (laws.variable_room c.requires.fine_node.0 c.requires.fine_node.1).deep)

pub convert_node_type-ty-requires : goal.convert_node_type-ty-requires
convert_node_type-ty-requires c = record { fine_node = (laws.variable c.requires.fine_node.0 c.requires.fine_node.1).parts.type; ready = c.requires.ready }

pub length_at-requires-2 : goal.length_at-requires-2
length_at-requires-2 c = let r = laws.variable_room c.requires.fine_node.0 c.requires.fine_node.1 in omega (arith, r.type, r.fits, r.ends)

pub type_check_initial-requires : goal.type_check_initial-requires
type_check_initial-requires c = record { fine_list = laws.value_fine c.requires.fine_node.0 c.requires.fine_node.1 {start = _} refl (heads.stops_at _ _ _ c.length_at-2.ensures) (heads.stops_at _ _ _ c.length_at.ensures); ready = ready_later c.requires.ready c.convert_node_type-ty.ensures.effect.walked.walked.grew c.convert_node_type-ty.ensures.effect.walked.walked.frame.long; one_type = one_type c.convert_node_type-ty.ensures.effect.walked.walked.grew.good c.convert_node_type-ty.ensures.effect.walked.is }

pub returns-clause-effect : goal.returns-clause-effect
returns-clause-effect c = laws.variable_checked c.requires.fine_node.0 c.requires.fine_node.1 refl (heads.stops_at _ _ _ c.length_at-2.ensures) (heads.stops_at _ _ _ c.length_at.ensures) c.convert_node_type-ty.ensures.effect c.type_check_initial.ensures.effect
