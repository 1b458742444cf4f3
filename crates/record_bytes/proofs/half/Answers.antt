use Rattle.record_bytes.specs.Bytes.{half_at}
use native.Mathlib.Omega.{arith}
use Rattle.record_bytes.proofs.half.Goals as goal

pub returns : goal.returns
unfolding half_at
returns c = record { is = omega (arith, c.from_le_bytes.ensures); small = omega arith }
