use Rattle.walk.proofs.Loans.{same_refl, same_then}
use native.Mathlib.Omega.{arith}
use Rattle.declare.proofs.Lists as laws
use Rattle.declare.proofs.declare_items.Goals as goal

pub loop-at-init : goal.loop-at-init
loop-at-init c = (laws.declared_start _ _ _ _ _ c.requires.fine_nodes _ c.requires.ready, same_refl _)

pub declare_item-requires : goal.declare_item-requires
declare_item-requires c = record { fine_node = laws.item_fine _ _ _ _ _ _ _ _ c.loop-at.invariant.0 c.loop-at-test.true; ready = c.loop-at.invariant.0.ready }

pub length_at-at-requires : goal.length_at-at-requires
length_at-at-requires c = let b = laws.item_bounds _ _ _ _ _ _ _ _ c.loop-at.invariant.0 c.loop-at-test.true in omega (arith, b)

pub loop-at-smaller : goal.loop-at-smaller
loop-at-smaller c = let b = laws.item_bounds _ _ _ _ _ _ _ _ c.loop-at.invariant.0 c.loop-at-test.true in omega (arith, b, c.length_at-at.ensures.is)

pub loop-at-preserved : goal.loop-at-preserved
loop-at-preserved c = (laws.declared_on _ _ _ _ _ _ _ _ c.loop-at.invariant.0 c.loop-at-test.true _ c.length_at-at.ensures _ c.declare_item.ensures.effect, same_then c.loop-at.invariant.1 c.declare_item.ensures.loans)

pub returns-clause-effect : goal.returns-clause-effect
returns-clause-effect c = laws.declared_done _ _ _ _ _ _ _ _ c.loop-at.invariant.0 c.loop-at-test.false
