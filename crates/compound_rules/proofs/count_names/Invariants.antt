-- A law for each exit and each turn of its loop.
use Prim.Native.Nat.{◌-◌}
use Rattle.compound_rules.proofs.Tables as tables
use Rattle.compound_rules.proofs.count_names.Given as goal

abbrev pub invariant-loop-at : goal.invariant-loop-at
invariant-loop-at l = tables.Tallying l.s l.from l.end l.at l.table

abbrev pub decreases-loop-at : goal.decreases-loop-at
decreases-loop-at l = l.end - l.at
