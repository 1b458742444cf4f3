use mathlib.Core.Path.{sym}
use Rattle.row_index.proofs.Index as laws
use Rattle.row_index.proofs.link.Goals as goal

pub returns-then-n-gt-PLACES : goal.returns-then-n-gt-PLACES
returns-then-n-gt-PLACES c = sym (laws.without_row _ _ _ c.if-n-gt-PLACES.true)

pub returns : goal.returns
returns c = laws.row_linked _ _ _ c.if-n-gt-PLACES.false _ c.bucket_of-bucket.ensures.0
