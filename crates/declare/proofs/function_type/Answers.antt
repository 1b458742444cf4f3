use native.Mathlib.Omega.{arith}
use Rattle.convert.proofs.Heads.{ready_later}
use Rattle.walk.specs.Typed.{typed}
use Rattle.walk.proofs.Loans as loans
use Rattle.declare.proofs.Globals as laws
use Rattle.declare.proofs.function_type.Goals as goal

pub length_at-requires : goal.length_at-requires
length_at-requires c = omega (arith, laws.function_room _ _ _ c.requires.fine_node c.requires.at_value)

pub overflow_sub-depth : goal.overflow_sub-depth
overflow_sub-depth c = omega (arith, laws.function_room _ _ _ c.requires.fine_node c.requires.at_value)

pub length_at-requires-2 : goal.length_at-requires-2
length_at-requires-2 c = omega (arith, laws.function_room _ _ _ c.requires.fine_node c.requires.at_value)

pub convert_node_type-returned-requires : goal.convert_node_type-returned-requires
convert_node_type-returned-requires c = record { fine_node = (laws.function_room _ _ _ c.requires.fine_node c.requires.at_value).type; ready = c.requires.ready }

pub convert_parameters-arguments-requires : goal.convert_parameters-arguments-requires
convert_parameters-arguments-requires c = record { fine_nodes = laws.parameters_fine _ _ _ c.requires.fine_node c.requires.at_value _ _ c.length_at.ensures c.length_at-2.ensures; ready = ready_later c.requires.ready c.convert_node_type-returned.ensures.effect.walked.walked.grew c.convert_node_type-returned.ensures.effect.walked.walked.frame.long }

pub returns-clause-effect : goal.returns-clause-effect
returns-clause-effect c = rw (loans.after_rows c.make.ensures.loans c.args.work.now) (laws.function_made _ _ _ c.requires.fine_node c.requires.at_value _ _ c.length_at.ensures c.length_at-2.ensures _ _ _ _ _ _ _ _ _ (typed c.convert_node_type-returned.result c.convert_node_type-returned.new.walk.state) c.convert_node_type-returned.ensures.effect _ _ _ (typed c.convert_parameters-arguments.result c.convert_parameters-arguments.new.walk.state) c.convert_parameters-arguments.ensures.effect _ (typed c.make.result c.make.new.self.state) c.make.ensures.effect)
