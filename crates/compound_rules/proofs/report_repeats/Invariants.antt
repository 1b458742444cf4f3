-- A law for each exit and each turn of its loop.
use Prim.Native.Nat.{◌-◌}
use Rattle.compound_rules.proofs.Repeats as repeats
use Rattle.compound_rules.proofs.report_repeats.Given as goal

abbrev pub invariant-loop-at : goal.invariant-loop-at
invariant-loop-at l = repeats.Repeats l.s l.from l.end l.initial.errors l.initial.next l.at l.errors l.next

abbrev pub decreases-loop-at : goal.decreases-loop-at
decreases-loop-at l = l.end - l.at
