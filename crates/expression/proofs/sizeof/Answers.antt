use Rattle.expression.proofs.Laws as laws
use Rattle.expression.proofs.Heads as heads
use native.Mathlib.Omega.{arith}
use Rattle.walk.proofs.Loans.{after_output}
use Rattle.expression.proofs.sizeof.Goals as goal

pub overflow_sub-inner : goal.overflow_sub-inner
overflow_sub-inner c = omega (arith, heads.deep c.requires.fine_node.0)

pub convert_node_type-requires : goal.convert_node_type-requires
convert_node_type-requires c = record { fine_node = heads.sizeof_type_fine c.requires.fine_node.0 c.requires.fine_node.1; ready = c.requires.ready }

pub put_slot-requires : goal.put_slot-requires
put_slot-requires c = omega (arith, heads.slot_room c.requires.fine_node.0, c.requires.ready.long, c.convert_node_type.ensures.effect.walked.walked.frame.long)

pub returns-clause-effect : goal.returns-clause-effect
returns-clause-effect c = rw (after_output c.put_slot.ensures.loans _) (laws.sizeof_carried c.requires.fine_node.0 c.requires.fine_node.1 c.requires.ready c.convert_node_type.ensures.effect _ c.put_slot.ensures.effect)
