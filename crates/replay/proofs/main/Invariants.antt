use Rattle.std.proofs.Common.{◌≤◌, ◌≡◌, length}
use Rattle.replay.proofs.main.Given as goal

abbrev pub invariant-loop-k : goal.invariant-loop-k
invariant-loop-k l = (length l.case ≡ 250000) × (l.tally.good ≤ l.k) × (l.tally.refused ≤ l.k) × (l.tally.differ ≤ l.k)
