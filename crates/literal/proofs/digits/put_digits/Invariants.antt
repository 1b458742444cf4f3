-- The loop: the worth of the first bytes is written. `refl` is the test of the whole constant, computed.
use Prim.Native.Nat.{◌-◌}
use Rattle.literal.specs.Digits.{bytes}
use Rattle.literal.proofs.Digit as laws
use Rattle.literal.proofs.digits.put_digits.Given as goal

abbrev pub invariant-loop-byte : goal.invariant-loop-byte
invariant-loop-byte l = laws.Written l.values l.table l.byte

abbrev pub decreases-loop-byte : goal.decreases-loop-byte
decreases-loop-byte l = bytes - l.byte
