-- The loop: the digits behind `to` are written, and `left` are those before it.
use Rattle.text.proofs.Decimals.{Putting}
use Rattle.text.proofs.put_decimal.Given as goal

abbrev pub invariant-loop-place : goal.invariant-loop-place
invariant-loop-place l = Putting l.n l.initial.text l.at l.end l.text l.rest l.place
