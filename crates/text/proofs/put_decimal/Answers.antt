use native.Mathlib.Omega.{arith}
use Rattle.text.proofs.Decimals as laws
use Rattle.text.proofs.put_decimal.Goals as goal

pub loop-place-init : goal.loop-place-init
loop-place-init c = laws.putting_start _ _ _ _ (omega arith) c.decimal_length.ensures c.requires

pub bounds-text-place : goal.bounds-text-place
bounds-text-place c = let p = laws.putting_inside _ _ _ _ _ _ _ c.loop-place.invariant in omega arith

pub loop-place-preserved : goal.loop-place-preserved
loop-place-preserved c = laws.putting_on _ _ _ _ _ _ _ c.loop-place.invariant c.loop-place-test.true

pub shape_of-text : goal.shape_of-text
shape_of-text c = laws.putting_long _ _ _ _ _ _ _ c.loop-place.invariant

pub returns : goal.returns
returns c = laws.putting_done _ _ _ _ _ _ _ c.loop-place.invariant c.loop-place-test.false
