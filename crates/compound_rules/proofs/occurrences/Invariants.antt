-- A law for each exit and each turn of its loop.
use Prim.Native.Nat.{◌-◌}
use Rattle.compound_rules.proofs.Repeats as repeats
use Rattle.compound_rules.proofs.occurrences.Given as goal

abbrev pub invariant-loop-at : goal.invariant-loop-at
invariant-loop-at l = repeats.Occurring l.s l.from l.end l.name l.at l.count

abbrev pub decreases-loop-at : goal.decreases-loop-at
decreases-loop-at l = l.end - l.at
