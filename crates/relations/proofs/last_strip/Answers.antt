use Rattle.relations.proofs.StripLaws.{last_told}
use Rattle.relations.proofs.last_strip.Goals as goal

pub returns : goal.returns
returns c = search last_told
