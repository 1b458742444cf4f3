-- The loop: none of the rows that were passed has the key.
use Rattle.rows.specs.Search.{Skipped}
use Rattle.rows.proofs.next_with.Given as goal

abbrev pub invariant-loop-n : goal.invariant-loop-n
invariant-loop-n l = Skipped l.rows l.m l.count l.key l.n
