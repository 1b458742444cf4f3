use Rattle.std.proofs.Common.{arith, ap, ◌∙◌, eq-eqb}
use Rattle.meaning.specs.Divergence.{find_break}
use Rattle.divergence.proofs.Walk as laws
use Rattle.divergence.proofs.+find_break_find_break_in.Goals as goal

pub find_break-returns-then-inner-eq-BREAK : goal.find_break-returns-then-inner-eq-BREAK
find_break-returns-then-inner-eq-BREAK t c = eq-eqb _ _ c.if-inner-eq-BREAK.true ∙ laws.break_here _ _ _ c.requires _ c.inner_statements-inner.ensures c.if-inner-eq-BREAK.true

pub find_break-find_break_in-requires : goal.find_break-find_break_in-requires
find_break-find_break_in-requires t c = let o = c.inner_statements-inner.ensures in let q = c.children.ensures in (omega (arith, o.deep, laws.held_level _ _ _ c.requires _ o q), laws.held_fine _ _ _ c.requires _ o q)

pub find_break-returns-else-inner-eq-BREAK : goal.find_break-returns-else-inner-eq-BREAK
find_break-returns-else-inner-eq-BREAK t c = let o = c.inner_statements-inner.ensures in laws.break_inside _ _ _ c.requires _ o c.if-inner-eq-BREAK.false _ (c.find_break_in.ensures ∙ ap find_break (laws.held_is _ _ _ c.requires _ o c.children.ensures))

pub find_break_in-loop-at-init : goal.find_break_in-loop-at-init
find_break_in-loop-at-init t c = laws.scan_start _ laws.any_break _ _ _ _ c.requires

pub find_break_in-find_break-requires : goal.find_break_in-find_break-requires
find_break_in-find_break-requires t c = (omega arith, laws.scan_first _ laws.any_break _ _ _ _ _ c.loop-at.invariant c.loop-at-test.true)

pub find_break_in-returns-then-find_break : goal.find_break_in-returns-then-find_break
find_break_in-returns-then-find_break t c = laws.scan_found _ laws.any_break _ _ _ _ _ c.loop-at.invariant c.loop-at-test.true _ c.find_break.ensures c.if-find_break.true

pub find_break_in-length_at-at-requires : goal.find_break_in-length_at-at-requires
find_break_in-length_at-at-requires t c = let b = laws.scan_bounds _ laws.any_break _ _ _ _ _ c.loop-at.invariant c.loop-at-test.true in omega arith

pub find_break_in-loop-at-smaller : goal.find_break_in-loop-at-smaller
find_break_in-loop-at-smaller t c = let b = laws.scan_bounds _ laws.any_break _ _ _ _ _ c.loop-at.invariant c.loop-at-test.true in omega (arith, c.length_at-at.ensures.is)

pub find_break_in-loop-at-preserved : goal.find_break_in-loop-at-preserved
find_break_in-loop-at-preserved t c = laws.scan_on _ laws.any_break _ _ _ _ _ c.loop-at.invariant c.loop-at-test.true _ c.find_break.ensures c.if-find_break.false _ c.length_at-at.ensures.is

pub find_break_in-returns : goal.find_break_in-returns
find_break_in-returns t c = laws.scan_done _ laws.any_break _ _ _ _ _ c.loop-at.invariant c.loop-at-test.false
