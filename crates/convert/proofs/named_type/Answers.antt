use Rattle.convert.proofs.Leaves as leaves
use Rattle.convert.proofs.named_type.Goals as goal

pub returns-then-found-gt0-clause-effect : goal.returns-then-found-gt0-clause-effect
returns-then-found-gt0-clause-effect c = search leaves.named_found

pub returns-clause-effect : goal.returns-clause-effect
returns-clause-effect c = search leaves.named_unknown
