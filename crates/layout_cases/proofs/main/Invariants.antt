-- No more of the base is used than it has room.
use Rattle.std.proofs.Common.{◌≤◌}
use Rattle.layout_cases.proofs.main.Given as goal

abbrev pub invariant-loop : goal.invariant-loop
invariant-loop l = l.n ≤ 70000
