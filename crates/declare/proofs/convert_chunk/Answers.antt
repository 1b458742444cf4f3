use Rattle.declare.proofs.Chunks as laws
use Rattle.walk.proofs.Loans.{same_refl, same_then}
use Rattle.walk.specs.Typed.{typed}
use mathlib.Core.Path.{refl}
use native.Mathlib.Omega.{arith}
use Rattle.declare.proofs.convert_chunk.Goals as goal

pub loop-count-init : goal.loop-count-init
loop-count-init c = (laws.converted_start _ _ _ _ _ c.requires.fine_nodes.0 c.requires.ready c.requires.fine_nodes.2, λ e. refl, same_refl _)

pub loop-count-preserved : goal.loop-count-preserved
loop-count-preserved c = (laws.converted_on _ _ _ _ _ _ _ _ _ _ _ _ _ _ _ _ _ c.loop-count.invariant.0 c.loop-count-test.true _ c.in-Some.ensures _ _ _ _ (typed c.convert_node_type.result c.convert_node_type.new.walk.state) c.convert_node_type.ensures.effect, λ e. absurd (omega arith), same_then c.loop-count.invariant.2 c.convert_node_type.ensures.loans)

pub returns-clause-effect : goal.returns-clause-effect
returns-clause-effect c = laws.all_converted _ _ _ _ _ _ _ _ _ _ _ _ _ _ _ _ _ c.loop-count.invariant.0 c.loop-count-test.false
