use Rattle.row_index.proofs.Index as laws
use Rattle.row_index.proofs.follow.Goals as goal

pub loop-init : goal.loop-init
loop-init c = laws.following_start _ _ _ _ _ c.requires.rows_indexed _ c.bucket_of.ensures.0 c.bucket_of.ensures.1

pub loop-preserved : goal.loop-preserved
loop-preserved c = laws.following_on _ _ _ _ _ _ c.loop.invariant c.if-n-m.false _ c.row_at.ensures _ c.alike.ensures c.if-alike.false
