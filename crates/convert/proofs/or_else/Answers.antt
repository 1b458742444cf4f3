use Rattle.convert.proofs.Leaves as leaves
use Rattle.convert.proofs.or_else.Goals as goal

pub returns-then-first-gt0 : goal.returns-then-first-gt0
returns-then-first-gt0 c = search leaves.or_first

pub returns : goal.returns
returns c = search leaves.or_second
