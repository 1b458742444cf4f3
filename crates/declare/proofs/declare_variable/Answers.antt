use native.Mathlib.Omega.{arith}
use Rattle.walk.specs.Typed.{typed}
use Rattle.declare.proofs.Globals as laws
use Rattle.declare.proofs.declare_variable.Goals as goal

pub overflow_sub-inner : goal.overflow_sub-inner
overflow_sub-inner c = omega (arith, laws.variable_room _ _ _ c.requires.fine_node c.requires.at_value)

pub convert_node_type-variable-requires : goal.convert_node_type-variable-requires
convert_node_type-variable-requires c = record { fine_node = (laws.variable_room _ _ _ c.requires.fine_node c.requires.at_value).type; ready = c.requires.ready }

pub word-name-requires : goal.word-name-requires
word-name-requires c = omega (arith, laws.variable_room _ _ _ c.requires.fine_node c.requires.at_value)

pub set_word-requires : goal.set_word-requires
set_word-requires c = omega (arith, (laws.variable_room _ _ _ c.requires.fine_node c.requires.at_value).names.known, c.requires.ready.wide, c.word-name.ensures.is)

pub returns-clause-effect : goal.returns-clause-effect
returns-clause-effect c = laws.variable_declared _ _ _ _ c.requires.fine_node _ _ _ _ _ c.requires.ready _ c.word-name.ensures _ _ _ _ (typed c.convert_node_type-variable.result c.convert_node_type-variable.new.walk.state) _ c.set_word.ensures c.requires.at_value c.convert_node_type-variable.ensures.effect
