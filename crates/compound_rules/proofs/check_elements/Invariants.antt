-- A law for each exit and each turn of its loop.
use Prim.Native.Nat.{◌-◌}
use Rattle.compound_rules.proofs.Elements as turns
use Rattle.compound_rules.proofs.check_elements.Given as goal

abbrev pub invariant-loop-place : goal.invariant-loop-place
invariant-loop-place l = turns.Elements l.s l.at l.from l.end l.element l.output l.rows l.initial.errors l.initial.next l.place l.errors l.next

abbrev pub decreases-loop-place : goal.decreases-loop-place
decreases-loop-place l = l.end - l.place
