-- The loop: the places before `last` are not in their order yet.
use Rattle.reorder.proofs.Exchanges.{Permuting}
use Rattle.reorder.proofs.permute.Given as goal

abbrev pub invariant-loop-last : goal.invariant-loop-last
invariant-loop-last l = Permuting l.initial.places l.places l.seed l.number l.last
