use Rattle.node.proofs.Open as laws
use Rattle.node.proofs.items_start.Goals as goal

pub returns-then-s-eq0 : goal.returns-then-s-eq0
returns-then-s-eq0 c = search laws.start_of_none

pub length_at-requires : goal.length_at-requires
length_at-requires c = search laws.start_fits

pub returns : goal.returns
returns c = search laws.start_said
