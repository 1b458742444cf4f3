use Rattle.name_index.proofs.IndexLaws as laws
use Rattle.name_index.proofs.is_listed.Given as goal

abbrev pub invariant-loop-at : goal.invariant-loop-at
invariant-loop-at l = laws.Looking l.s l.index l.text l.at

abbrev pub decreases-loop-at : goal.decreases-loop-at
decreases-loop-at l = l.at
