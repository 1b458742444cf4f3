use native.Mathlib.Omega.{arith}
use borrow.Author.Rules.{rules}
use Rattle.record_bytes.proofs.byte.Goals as goal

pub overflow_cast-result : goal.overflow_cast-result
overflow_cast-result c = omega (arith, c.shared_slice_known-1.given c.args.at)

pub returns : goal.returns
returns c = record { is = search rules; small = omega (arith, c.shared_slice_known-1.given c.args.at) }
