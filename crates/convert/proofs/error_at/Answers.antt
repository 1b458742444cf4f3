use Rattle.convert.proofs.Leaves as leaves
use Rattle.convert.proofs.error_at.Goals as goal

pub returns : goal.returns
returns c = search leaves.error_read
