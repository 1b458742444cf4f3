use native.Mathlib.Omega.{arith}
use Rattle.types.proofs.Query as query
use Rattle.types.proofs.strip_until.Goals as goal

pub loop-row-preserved : goal.loop-row-preserved
loop-row-preserved g c =
    query.strip_on _ _ _ _ _ c.loop-row-2.invariant.0 _ (query.row_placed c.args.rows.now _ _ c.loop-row-2.invariant.1 _ c.row_from-row.ensures) c.requires.table.0 c.requires.aliases _ c.stops.ensures c.if-stops.false

pub loop-row-2-preserved : goal.loop-row-2-preserved
loop-row-2-preserved g c =
    let next =
    query.strip_on _ _ _ _ _ c.loop-row-2.invariant.0 _ (query.row_placed c.args.rows.now _ _ c.loop-row-2.invariant.1 _ c.row_from-row.ensures) c.requires.table.0 c.requires.aliases _ c.stops.ensures c.if-stops.false in
    (next, omega (arith, c.loop-row-2.invariant.1, c.if-at-before.false), omega (arith, c.loop-row-2.invariant.2, c.if-at-before.false))
