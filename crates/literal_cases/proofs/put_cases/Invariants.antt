-- Once the answers to the lines left are put, all are.
use Rattle.std.proofs.Common.{◌≤◌, ◌+◌, ◌-◌, length}
use Rattle.literal_cases.proofs.CaseLaws.{Left}
use Rattle.literal_cases.proofs.put_cases.Given as goal

abbrev pub invariant-loop-at : goal.invariant-loop-at
invariant-loop-at g l = (l.at ≤ length l.input + 1) × Left l.input l.initial.lines l.at l.lines

abbrev pub decreases-loop-at : goal.decreases-loop-at
decreases-loop-at g l = length l.input + 1 - l.at
