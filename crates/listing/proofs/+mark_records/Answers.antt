use native.Mathlib.Omega.{arith}
use Rattle.listing.proofs.Marking as laws
use Rattle.listing.proofs.+mark_records.Goals as goal

pub returns-then-depth-lt1 : goal.returns-then-depth-lt1
returns-then-depth-lt1 t c = search laws.marking_none

pub loop-next-init : goal.loop-next-init
loop-next-init t c = laws.marking_start _ _ _ _ _

pub returns : goal.returns
returns t c =
    laws.marking_done _ _ _ _ _ _ _ c.if-depth-lt1.false c.requires.0 c.loop-next.invariant c.in_default.ensures

pub loop-next-smaller : goal.loop-next-smaller
loop-next-smaller t c = let f = c.in-Some.ensures in omega (arith, f.head, f.inside)

pub loop-next-preserved : goal.loop-next-preserved
loop-next-preserved t c =
    laws.marking_more _ _ _ _ _ _ _ c.if-depth-lt1.false c.requires.0 c.loop-next.invariant _ c.in-Some.ensures
    _ c.mark_here.ensures _ c.children_start-inner.ensures _ c.mark_records.ensures
