use native.Mathlib.Omega.{arith}
use mathlib.Core.Path.{refl}
use Rattle.expression.proofs.Heads as heads
use Rattle.items.proofs.Functions as laws
use Rattle.items.proofs.type_check_function.Goals as goal

pub length_at-requires : goal.length_at-requires
length_at-requires c = let r = laws.function_room c.requires.fine_node.0 c.requires.fine_node.1 in omega (arith, r.type, r.fits, r.ends)

pub overflow_sub-depth : goal.overflow_sub-depth
overflow_sub-depth c = omega (arith, (laws.function_room c.requires.fine_node.0 c.requires.fine_node.1).deep)

pub length_at-requires-2 : goal.length_at-requires-2
length_at-requires-2 c = let r = laws.function_room c.requires.fine_node.0 c.requires.fine_node.1 in omega (arith, r.type, r.fits, r.ends)

pub type_check_parameters-from-requires : goal.type_check_parameters-from-requires
type_check_parameters-from-requires c = record { fine_nodes = laws.parameters_fine c.requires.fine_node.0 c.requires.fine_node.1 {start = _} refl (heads.stops_at _ _ _ c.length_at-2.ensures) (heads.stops_at _ _ _ c.length_at.ensures); ready = c.requires.ready }

pub convert_node_type-returned-requires : goal.convert_node_type-returned-requires
convert_node_type-returned-requires c = record { fine_node = laws.returned_fine c.requires.fine_node.0 c.requires.fine_node.1 refl (heads.stops_at _ _ _ c.length_at-2.ensures) (heads.stops_at _ _ _ c.length_at.ensures); ready = laws.ready_after c.requires.ready c.type_check_parameters-from.ensures.effect.walked.grew c.type_check_parameters-from.ensures.effect.walked.frame.long c.type_check_parameters-from.ensures.effect.wide }

pub clear_function-requires : goal.clear_function-requires
clear_function-requires c = record { fine_nodes = laws.parameters_fine c.requires.fine_node.0 c.requires.fine_node.1 {start = _} refl (heads.stops_at _ _ _ c.length_at-2.ensures) (heads.stops_at _ _ _ c.length_at.ensures); body_left = c.type_check_parameters-from.ensures.effect.left; s_in_bounds = omega (arith, c.requires.ready.wide, c.type_check_parameters-from.ensures.effect.wide, c.type_check_body.ensures.effect.wide) }

pub returns-clause-effect : goal.returns-clause-effect
returns-clause-effect c = laws.function_checked c.requires.fine_node.0 c.requires.fine_node.1 refl (heads.stops_at _ _ _ c.length_at-2.ensures) (heads.stops_at _ _ _ c.length_at.ensures) c.type_check_parameters-from.ensures.effect c.convert_node_type-returned.ensures.effect c.type_check_body.ensures.effect c.clear_function.ensures
