use native.Mathlib.Omega.{arith}
use mathlib.Core.Path.{ap}
use Prim.Native.Nat.{◌+◌}
use Rattle.clear_locals.proofs.Walks as laws
use Rattle.clear_locals.proofs.clear_parameters.Goals as goal

pub half-requires : goal.half-requires
half-requires c = omega (arith, laws.parameters_room c.loop-at.invariant c.loop-at-test.true)

pub returns-else-half-eq-PARAMETER : goal.returns-else-half-eq-PARAMETER
returns-else-half-eq-PARAMETER c = laws.parameters_body c.loop-at.invariant c.loop-at-test.true c.half.ensures c.if-half-eq-PARAMETER.false

pub word-name-requires : goal.word-name-requires
word-name-requires c = let p = laws.parameter c.loop-at.invariant c.loop-at-test.true c.half.ensures c.if-half-eq-PARAMETER.true in omega (arith, p.room.head, p.room.ends)

pub set_word-requires : goal.set_word-requires
set_word-requires c = let p = laws.parameter c.loop-at.invariant c.loop-at-test.true c.half.ensures c.if-half-eq-PARAMETER.true in omega (arith, p.named, c.word-name.ensures.is, c.loop-at.invariant.wide, c.requires.s_in_bounds)

pub length_at-at-requires : goal.length_at-at-requires
length_at-at-requires c = let p = laws.parameter c.loop-at.invariant c.loop-at-test.true c.half.ensures c.if-half-eq-PARAMETER.true in omega (arith, p.room.head, p.room.ends)

pub loop-at-smaller : goal.loop-at-smaller
loop-at-smaller c = let p = laws.parameter c.loop-at.invariant c.loop-at-test.true c.half.ensures c.if-half-eq-PARAMETER.true in omega (arith, p.room.head, c.loop-at-test.true, c.length_at-at.ensures.is)

pub loop-at-preserved : goal.loop-at-preserved
loop-at-preserved c = laws.parameters_on c.loop-at.invariant c.loop-at-test.true c.half.ensures c.if-half-eq-PARAMETER.true c.word-name.ensures c.set_word.ensures (ap (λ x. c.loop-at.at + x) c.length_at-at.ensures.is)

pub returns-after-loop-at : goal.returns-after-loop-at
returns-after-loop-at c = laws.parameters_end c.loop-at.invariant c.loop-at-test.false
