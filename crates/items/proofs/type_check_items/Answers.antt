use Rattle.items.proofs.Items as laws
use Rattle.expression.proofs.Heads as heads
use Rattle.walk.proofs.Loans.{same_refl, same_then}
use native.Mathlib.Omega.{arith}
use Rattle.items.proofs.type_check_items.Goals as goal

pub loop-at-init : goal.loop-at-init
loop-at-init c = (laws.checking_start _ _ _ _ c.requires.fine_nodes c.requires.ready, same_refl _)

pub type_check_item-requires : goal.type_check_item-requires
type_check_item-requires c = record { fine_node = laws.first_fine _ _ _ _ c.loop-at.invariant.0 c.loop-at-test.true; ready = c.loop-at.invariant.0.ready }

pub length_at-at-requires : goal.length_at-at-requires
length_at-at-requires c = let b = laws.first_room _ _ _ _ c.loop-at.invariant.0 c.loop-at-test.true in omega (arith, b)

pub loop-at-smaller : goal.loop-at-smaller
loop-at-smaller c = let b = laws.first_room _ _ _ _ c.loop-at.invariant.0 c.loop-at-test.true in omega (arith, b, c.length_at-at.ensures.is)

pub loop-at-preserved : goal.loop-at-preserved
loop-at-preserved c = (laws.checking_on _ _ _ _ c.loop-at.invariant.0 c.loop-at-test.true c.type_check_item.ensures.effect _ (heads.stops_at _ _ _ c.length_at-at.ensures), same_then c.loop-at.invariant.1 c.type_check_item.ensures.loans)

pub returns-clause-effect : goal.returns-clause-effect
returns-clause-effect c = laws.checking_done _ _ _ _ c.loop-at.invariant.0 c.loop-at-test.false
