use mathlib.Core.Path.{sym}
use native.Mathlib.Omega.{arith}
use Rattle.row_index.proofs.Additions as laws
use Rattle.row_index.proofs.link_all.Goals as goal

pub loop-n-init : goal.loop-n-init
loop-n-init c = sym (laws.rows_none _ _ _)

pub loop-n-preserved : goal.loop-n-preserved
loop-n-preserved c = let more = laws.rows_more c.args.index.now c.args.rows.now 0 c.loop-n.n (omega arith) in rw (more, ← c.loop-n.invariant, ← c.row_at.ensures) c.link.ensures
