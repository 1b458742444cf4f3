-- The loop's invariant: the value read so far is a `u16`, and the answer is that of the digits left, begun at it.
use Prim.Native.Nat.{◌≤◌}
use mathlib.Core.Path.{◌≡◌}
use lib.ListN.{drop}
use Rattle.literal.specs.Literal.{parse_digits}
use Rattle.literal.proofs.Laws.{answer_from}
use Rattle.literal.proofs.parse_digits.Given as goal

abbrev pub invariant-loop-byte : goal.invariant-loop-byte
invariant-loop-byte l = (l.value ≤ 65535) × (parse_digits l.base l.digits ≡ answer_from l.base l.value (drop l.byte-index l.digits))
