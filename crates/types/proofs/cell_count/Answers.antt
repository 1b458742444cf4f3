use native.Mathlib.Omega.{arith}
use Rattle.types.proofs.Query as query
use Rattle.types.proofs.Lists as lists
use Rattle.types.proofs.cell_count.Goals as goal

pub loop-at-preserved : goal.loop-at-preserved
loop-at-preserved c = lists.counted_next _ _ c.requires.0 _ _ _ c.loop-at-2.invariant.0 (λ z. omega (arith, c.loop-at-2.invariant.3)) _ (query.row_placed c.args.rows.now _ _ c.loop-at-2.invariant.1 _ c.row_from-row.ensures)

pub loop-at-2-preserved : goal.loop-at-2-preserved
loop-at-2-preserved c = (lists.counted_next _ _ c.requires.0 _ _ _ c.loop-at-2.invariant.0 (λ z. omega (arith, c.loop-at-2.invariant.3)) _ (query.row_placed c.args.rows.now _ _ c.loop-at-2.invariant.1 _ c.row_from-row.ensures), omega (arith, c.loop-at-2.invariant.1, c.if-at-before.false), omega (arith, c.if-at-before.false, c.loop-at-2.invariant.2), omega (arith, c.if-at-eq0.false))

pub returns : goal.returns
returns c = search lists.counted_done
