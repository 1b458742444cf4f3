use Rattle.convert.proofs.Leaves as leaves
use Rattle.convert.proofs.settle.Goals as goal

pub returns-else-fill-clause-effect : goal.returns-else-fill-clause-effect
returns-else-fill-clause-effect c = search leaves.settle_kept

pub returns-then-fill-clause-effect : goal.returns-then-fill-clause-effect
returns-then-fill-clause-effect c = search leaves.settle_stored
