use Rattle.items.proofs.Parameters as laws
use Rattle.expression.proofs.Heads as heads
use Rattle.walk.proofs.Loans.{same_refl, same_then}
use native.Mathlib.Omega.{arith}
use Rattle.items.proofs.type_check_parameters.Goals as goal

pub loop-at-init : goal.loop-at-init
loop-at-init c = (laws.entering_start _ _ _ _ _ c.requires.fine_nodes c.requires.ready, same_refl _)

pub half-requires : goal.half-requires
half-requires c = omega (arith, laws.head_room _ _ _ _ _ c.loop-at.invariant.0 c.loop-at-test.true)

pub returns-else-half-eq-PARAMETER-clause-effect : goal.returns-else-half-eq-PARAMETER-clause-effect
returns-else-half-eq-PARAMETER-clause-effect c = laws.entering_body _ _ _ _ _ c.loop-at.invariant.0 c.loop-at-test.true c.half.ensures c.if-half-eq-PARAMETER.false

pub overflow_sub-node : goal.overflow_sub-node
overflow_sub-node c = omega (arith, (laws.parameter _ _ _ _ _ c.loop-at.invariant.0 c.loop-at-test.true c.half.ensures c.if-half-eq-PARAMETER.true).room.deep)

pub convert_node_type-converted-requires : goal.convert_node_type-converted-requires
convert_node_type-converted-requires c = record { fine_node = (laws.parameter _ _ _ _ _ c.loop-at.invariant.0 c.loop-at-test.true c.half.ensures c.if-half-eq-PARAMETER.true).type; ready = c.loop-at.invariant.0.ready }

pub word-name-requires : goal.word-name-requires
word-name-requires c = let p = laws.parameter _ _ _ _ _ c.loop-at.invariant.0 c.loop-at-test.true c.half.ensures c.if-half-eq-PARAMETER.true in omega (arith, p.room.head, p.room.ends)

pub set_word-requires : goal.set_word-requires
set_word-requires c = omega (arith, laws.entering_room _ _ _ _ _ c.loop-at.invariant.0 (laws.parameter _ _ _ _ _ c.loop-at.invariant.0 c.loop-at-test.true c.half.ensures c.if-half-eq-PARAMETER.true), c.word-name.ensures.is)

pub length_at-at-requires : goal.length_at-at-requires
length_at-at-requires c = let p = laws.parameter _ _ _ _ _ c.loop-at.invariant.0 c.loop-at-test.true c.half.ensures c.if-half-eq-PARAMETER.true in omega (arith, p.room.head, p.room.ends)

pub loop-at-smaller : goal.loop-at-smaller
loop-at-smaller c = let p = laws.parameter _ _ _ _ _ c.loop-at.invariant.0 c.loop-at-test.true c.half.ensures c.if-half-eq-PARAMETER.true in omega (arith, p.room.head, c.loop-at-test.true, c.length_at-at.ensures.is)

pub loop-at-preserved : goal.loop-at-preserved
loop-at-preserved c = (laws.entering_on _ _ _ _ _ c.loop-at.invariant.0 (laws.parameter _ _ _ _ _ c.loop-at.invariant.0 c.loop-at-test.true c.half.ensures c.if-half-eq-PARAMETER.true) c.convert_node_type-converted.ensures.effect _ c.word-name.ensures _ c.set_word.ensures _ (heads.stops_at _ _ _ c.length_at-at.ensures), same_then c.loop-at.invariant.1 c.convert_node_type-converted.ensures.loans)

pub returns-after-loop-at-clause-effect : goal.returns-after-loop-at-clause-effect
returns-after-loop-at-clause-effect c = laws.entering_end _ _ _ _ _ c.loop-at.invariant.0 c.loop-at-test.false
