use Rattle.std.proofs.Common.{arith, rules, ap, ◌∙◌}
use Rattle.meaning.specs.Divergence.{find_break, do_all_paths_diverge}
use Rattle.divergence.proofs.Walk as laws
use Rattle.divergence.proofs.+any_path_diverges_do_all_paths_diverge.Goals as goal

pub any_path_diverges-loop-at-init : goal.any_path_diverges-loop-at-init
any_path_diverges-loop-at-init t c = laws.scan_start _ laws.any_diverges _ _ _ _ c.requires

pub any_path_diverges-do_all_paths_diverge-requires : goal.any_path_diverges-do_all_paths_diverge-requires
any_path_diverges-do_all_paths_diverge-requires t c = (omega arith, laws.scan_first _ laws.any_diverges _ _ _ _ _ c.loop-at.invariant c.loop-at-test.true)

pub any_path_diverges-returns-then-do_all_paths_diverge : goal.any_path_diverges-returns-then-do_all_paths_diverge
any_path_diverges-returns-then-do_all_paths_diverge t c = laws.scan_found _ laws.any_diverges _ _ _ _ _ c.loop-at.invariant c.loop-at-test.true _ c.do_all_paths_diverge.ensures c.if-do_all_paths_diverge.true

pub any_path_diverges-length_at-at-requires : goal.any_path_diverges-length_at-at-requires
any_path_diverges-length_at-at-requires t c = let b = laws.scan_bounds _ laws.any_diverges _ _ _ _ _ c.loop-at.invariant c.loop-at-test.true in omega arith

pub any_path_diverges-loop-at-smaller : goal.any_path_diverges-loop-at-smaller
any_path_diverges-loop-at-smaller t c = let b = laws.scan_bounds _ laws.any_diverges _ _ _ _ _ c.loop-at.invariant c.loop-at-test.true in omega (arith, c.length_at-at.ensures.is)

pub any_path_diverges-loop-at-preserved : goal.any_path_diverges-loop-at-preserved
any_path_diverges-loop-at-preserved t c = laws.scan_on _ laws.any_diverges _ _ _ _ _ c.loop-at.invariant c.loop-at-test.true _ c.do_all_paths_diverge.ensures c.if-do_all_paths_diverge.false _ c.length_at-at.ensures.is

pub any_path_diverges-returns : goal.any_path_diverges-returns
any_path_diverges-returns t c = laws.scan_done _ laws.any_diverges _ _ _ _ _ c.loop-at.invariant c.loop-at-test.false

pub do_all_paths_diverge-any_path_diverges-requires : goal.do_all_paths_diverge-any_path_diverges-requires
do_all_paths_diverge-any_path_diverges-requires t c = let o = c.inner_statements-inner.ensures in let q = c.children-statements.ensures in (omega (arith, o.deep, laws.held_level _ _ _ c.requires _ o q), laws.held_fine _ _ _ c.requires _ o q)

pub do_all_paths_diverge-returns-then-find_break_in : goal.do_all_paths_diverge-returns-then-find_break_in
do_all_paths_diverge-returns-then-find_break_in t c = let o = c.inner_statements-inner.ensures in let h = laws.held_is _ _ _ c.requires _ o c.children-statements.ensures in laws.breaking_diverges _ _ _ c.requires _ o c.in-70.is _ (c.find_break_in.ensures ∙ ap find_break h) c.if-find_break_in.true _ (c.any_path_diverges.ensures ∙ ap do_all_paths_diverge h)

pub do_all_paths_diverge-do_all_paths_diverge-requires : goal.do_all_paths_diverge-do_all_paths_diverge-requires
do_all_paths_diverge-do_all_paths_diverge-requires t c = let o = c.inner_statements-inner.ensures in let q = c.inside-side.ensures in (omega (arith, o.deep, laws.side_level _ _ _ c.requires _ o c.in-73.is q), laws.side_fine _ _ _ c.requires _ o c.in-73.is q)

pub do_all_paths_diverge-length_at-requires : goal.do_all_paths_diverge-length_at-requires
do_all_paths_diverge-length_at-requires t c = let o = c.inner_statements-inner.ensures in let b = laws.side_bounds _ _ _ c.requires _ o c.in-73.is c.inside-side.ensures in omega (arith, b.head, b.stop)

pub do_all_paths_diverge-any_path_diverges-requires-then-do_all_paths_diverge : goal.do_all_paths_diverge-any_path_diverges-requires-then-do_all_paths_diverge
do_all_paths_diverge-any_path_diverges-requires-then-do_all_paths_diverge t c = let o = c.inner_statements-inner.ensures in let q = c.inside-side.ensures in (omega (arith, o.deep, laws.side_level _ _ _ c.requires _ o c.in-73.is q), laws.other_fine _ _ _ c.requires _ o c.in-73.is q _ c.length_at.ensures.is)

pub do_all_paths_diverge-returns-then-do_all_paths_diverge : goal.do_all_paths_diverge-returns-then-do_all_paths_diverge
do_all_paths_diverge-returns-then-do_all_paths_diverge t c = let o = c.inner_statements-inner.ensures in laws.both_diverge _ _ _ c.requires _ o c.in-73.is c.inside-side.ensures _ c.do_all_paths_diverge.ensures c.if-do_all_paths_diverge.true _ c.length_at.ensures.is _ c.any_path_diverges-then-do_all_paths_diverge.ensures

pub do_all_paths_diverge-any_path_diverges-requires-in_default : goal.do_all_paths_diverge-any_path_diverges-requires-in_default
do_all_paths_diverge-any_path_diverges-requires-in_default t c = let o = c.inner_statements-inner.ensures in let q = c.children-statements.ensures in (omega (arith, o.deep, laws.held_level _ _ _ c.requires _ o q), laws.held_fine _ _ _ c.requires _ o q)

pub do_all_paths_diverge-returns-in-69 : goal.do_all_paths_diverge-returns-in-69
do_all_paths_diverge-returns-in-69 t c = let o = c.inner_statements-inner.ensures in laws.return_diverges _ _ _ c.requires _ o c.in-69.is

pub do_all_paths_diverge-returns-else-find_break_in : goal.do_all_paths_diverge-returns-else-find_break_in
do_all_paths_diverge-returns-else-find_break_in t c = let o = c.inner_statements-inner.ensures in let h = laws.held_is _ _ _ c.requires _ o c.children-statements.ensures in laws.endless_diverges _ _ _ c.requires _ o c.in-70.is _ (c.find_break_in.ensures ∙ ap find_break h) c.if-find_break_in.false

pub do_all_paths_diverge-returns-else-do_all_paths_diverge : goal.do_all_paths_diverge-returns-else-do_all_paths_diverge
do_all_paths_diverge-returns-else-do_all_paths_diverge t c = let o = c.inner_statements-inner.ensures in laws.side_goes_on _ _ _ c.requires _ o c.in-73.is c.inside-side.ensures _ c.do_all_paths_diverge.ensures c.if-do_all_paths_diverge.false

pub do_all_paths_diverge-returns-in_default : goal.do_all_paths_diverge-returns-in_default
do_all_paths_diverge-returns-in_default t c = let o = c.inner_statements-inner.ensures in let h = laws.held_is _ _ _ c.requires _ o c.children-statements.ensures in laws.others_diverge _ _ _ c.requires _ o (search rules) (search rules) (search rules) _ (c.any_path_diverges-in_default.ensures ∙ ap do_all_paths_diverge h)
