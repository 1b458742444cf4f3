use mathlib.Core.Path.{refl}
use Rattle.row_index.specs.Index.{bucket_of}
use native.Mathlib.Omega.{arith}
use Rattle.row_index.proofs.bucket_of.Goals as goal

pub returns : goal.returns
unfolding bucket_of
returns c = (refl, omega arith)
