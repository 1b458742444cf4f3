-- The digits read have the value `number`.
use Rattle.std.proofs.Common.{◌≡◌, ◌≤◌, drop}
use Rattle.literal_cases.specs.Numbers.{decimal, decimal_from}
use Rattle.literal_cases.proofs.read_base.Given as goal

abbrev pub invariant-loop-digit : goal.invariant-loop-digit
invariant-loop-digit l = (l.number ≤ 4294967295) × (decimal l.digits ≡ decimal_from l.number (drop l.digit-index l.digits))
