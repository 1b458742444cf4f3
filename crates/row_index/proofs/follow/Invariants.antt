-- The loop: no row of its bucket above row n has the words.
use Rattle.row_index.proofs.Index as laws
use Rattle.row_index.proofs.follow.Given as goal

abbrev pub invariant-loop : goal.invariant-loop
invariant-loop l = laws.Following l.rows l.index l.m l.count l.row l.n
