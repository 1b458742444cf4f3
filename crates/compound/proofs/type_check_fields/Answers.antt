use native.Mathlib.Omega.{arith}
use mathlib.Core.Path.{refl}
use Rattle.walk.proofs.Loans.{same_refl, same_then}
use Rattle.expression.proofs.Heads as heads
use Rattle.compound.proofs.Fields as laws
use Rattle.compound.proofs.type_check_fields.Goals as goal

pub loop-at-init : goal.loop-at-init
loop-at-init c = (laws.checking_start _ _ _ _ c.requires.fine_nodes c.requires.ready, same_refl _)

pub overflow_sub-value : goal.overflow_sub-value
overflow_sub-value c = omega (arith, (laws.field _ _ _ _ c.loop-at.invariant.0 c.loop-at-test.true).room.deep)

pub type_check_expression-requires : goal.type_check_expression-requires
type_check_expression-requires c = record { fine_node = (laws.field _ _ _ _ c.loop-at.invariant.0 c.loop-at-test.true).value; ready = c.loop-at.invariant.0.ready }

pub length_at-at-requires : goal.length_at-at-requires
length_at-at-requires c = let f = laws.field _ _ _ _ c.loop-at.invariant.0 c.loop-at-test.true in omega (arith, f.room.head, f.room.ends)

pub loop-at-smaller : goal.loop-at-smaller
loop-at-smaller c = let f = laws.field _ _ _ _ c.loop-at.invariant.0 c.loop-at-test.true in omega (arith, f.room.head, c.loop-at-test.true, c.length_at-at.ensures.is)

pub loop-at-preserved : goal.loop-at-preserved
loop-at-preserved c = (laws.checking_on _ _ _ _ c.loop-at.invariant.0 c.loop-at-test.true _ refl c.type_check_expression.ensures.effect _ (heads.stops_at _ _ _ c.length_at-at.ensures), same_then c.loop-at.invariant.1 c.type_check_expression.ensures.loans)

pub returns-clause-effect : goal.returns-clause-effect
returns-clause-effect c = laws.checking_done _ _ _ _ c.loop-at.invariant.0 c.loop-at-test.false
