use Rattle.types.proofs.Query as query
use Rattle.types.proofs.name.Goals as goal

pub returns : goal.returns
returns c = search query.read_name
