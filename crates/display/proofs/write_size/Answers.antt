use Rattle.display.proofs.Openings as laws
use Rattle.display.proofs.write_size.Goals as goal

pub returns : goal.returns
returns c = search laws.size_written
