use Rattle.types.proofs.Query as query
use Rattle.types.proofs.fields.Goals as goal

pub returns : goal.returns
returns c = search query.read_fields
