use Rattle.relations.proofs.CastLaws.{fits_desugared}
use Rattle.relations.proofs.cast_fits.Goals as goal

pub returns-else-cast_kinds : goal.returns-else-cast_kinds
returns-else-cast_kinds c = search fits_desugared
