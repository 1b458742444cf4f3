use Rattle.names.proofs.NameLaws as laws
use Rattle.names.proofs.name_at.Goals as goal

pub returns : goal.returns
returns c = search laws.name_part
