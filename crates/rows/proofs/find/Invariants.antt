-- The loop: none of the rows that were passed has the words.
use Rattle.rows.proofs.Search as laws
use Prim.Native.Nat.{◌-◌}
use Rattle.rows.proofs.find.Given as goal

abbrev pub invariant-loop-next : goal.invariant-loop-next
invariant-loop-next l = laws.Searching l.rows l.m l.count l.row l.key l.n

abbrev pub decreases-loop-next : goal.decreases-loop-next
decreases-loop-next l = l.count - l.n
