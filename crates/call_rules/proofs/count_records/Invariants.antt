-- A law for each exit and each turn of its loop.
use Prim.Native.Nat.{◌-◌}
use Rattle.call_rules.proofs.Chains as chains
use Rattle.call_rules.proofs.count_records.Given as goal

abbrev pub invariant-loop-at : goal.invariant-loop-at
invariant-loop-at l = chains.Counting l.s l.from l.end l.at l.count

abbrev pub decreases-loop-at : goal.decreases-loop-at
decreases-loop-at l = l.end - l.at
