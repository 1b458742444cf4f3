use native.Mathlib.Omega.{arith}
use Rattle.walk.specs.Typed.{typed}
use Rattle.declare.proofs.Globals as laws
use Rattle.declare.proofs.declare_function.Goals as goal

pub word-name-requires : goal.word-name-requires
word-name-requires c = omega (arith, laws.function_room _ _ _ c.requires.fine_node c.requires.at_value)

pub set_word-requires : goal.set_word-requires
set_word-requires c = omega (arith, (laws.function_room _ _ _ c.requires.fine_node c.requires.at_value).names.known, c.requires.ready.wide, c.word-name.ensures.is)

pub returns-clause-effect : goal.returns-clause-effect
returns-clause-effect c = laws.function_declared _ _ _ _ c.requires.fine_node _ _ _ _ _ c.requires.ready _ c.word-name.ensures _ _ _ _ (typed c.function_type-function.result c.function_type-function.new.walk.state) _ c.set_word.ensures c.requires.at_value c.function_type-function.ensures.effect
