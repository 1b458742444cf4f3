use Rattle.name_index.proofs.HashLaws as laws
use Rattle.name_index.proofs.hash.Given as goal

abbrev pub invariant-loop-x : goal.invariant-loop-x
invariant-loop-x l = laws.Hashing l.text l.x-index l.h
