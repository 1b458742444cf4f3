-- What is kept of the number is below the modulus.
use Rattle.std.proofs.Common.{◌<◌}
use Rattle.shuffle.proofs.read_number.Given as goal

abbrev pub invariant-loop-digit : goal.invariant-loop-digit
invariant-loop-digit l = l.number < 4294967291
