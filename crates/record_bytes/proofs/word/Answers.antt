use Rattle.record_bytes.specs.Bytes.{byte_at, half_at, word_at}
use Prim.Native.Nat.{◌+◌}
use mathlib.Core.Path.{◌≡◌, ap}
use native.Mathlib.Omega.{arith}
use Rattle.record_bytes.proofs.word.Goals as goal

pub returns : goal.returns
unfolding half_at word_at
returns c =
    let last : c.args.at + 2 + 1 ≡ c.args.at + 3 = omega arith in
    record { is = omega (arith, c.from_le_bytes.ensures, ap (byte_at c.args.s.now) last); small = omega arith }
