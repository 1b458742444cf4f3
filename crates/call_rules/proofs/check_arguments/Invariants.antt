-- A law for each exit and each turn of its loop.
use Prim.Native.Nat.{◌-◌}
use Rattle.call_rules.proofs.Turns as turns
use Rattle.call_rules.proofs.check_arguments.Given as goal

abbrev pub invariant-loop-place : goal.invariant-loop-place
invariant-loop-place l = turns.Arguments l.s l.at l.from l.end l.cells l.output l.rows l.initial.errors l.state l.place l.cell l.position l.errors l.next

abbrev pub decreases-loop-place : goal.decreases-loop-place
decreases-loop-place l = l.end - l.place
