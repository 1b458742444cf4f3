use native.Mathlib.Omega.{arith}
use Rattle.types.proofs.Query as query
use Rattle.types.proofs.Lists as lists
use Rattle.types.proofs.field_named.Goals as goal

pub returns-then-row-name : goal.returns-then-row-name
returns-then-row-name c = lists.seek_here _ _ c.requires.0 _ _ _ c.loop-row.invariant.0 (λ z. omega (arith, c.loop-row.invariant.3)) _ (query.row_placed c.args.rows.now _ _ c.loop-row.invariant.1 _ c.row_from-row.ensures) c.if-row-name.true

pub loop-cell-preserved : goal.loop-cell-preserved
loop-cell-preserved c = lists.seek_next _ _ c.requires.0 _ _ _ c.loop-row.invariant.0 (λ z. omega (arith, c.loop-row.invariant.3)) _ (query.row_placed c.args.rows.now _ _ c.loop-row.invariant.1 _ c.row_from-row.ensures) c.if-row-name.false

pub loop-row-preserved : goal.loop-row-preserved
loop-row-preserved c = (lists.seek_next _ _ c.requires.0 _ _ _ c.loop-row.invariant.0 (λ z. omega (arith, c.loop-row.invariant.3)) _ (query.row_placed c.args.rows.now _ _ c.loop-row.invariant.1 _ c.row_from-row.ensures) c.if-row-name.false, omega (arith, c.loop-row.invariant.1, c.if-cell-before.false), omega (arith, c.if-cell-before.false, c.loop-row.invariant.2), omega (arith, c.if-cell-eq0.false))

pub returns : goal.returns
returns c = search lists.seek_done
