use Rattle.walk.proofs.Making as laws
use Rattle.walk.proofs.make.Goals as goal

pub returns-in-Some : goal.returns-in-Some
returns-in-Some c = search (laws.make_at, c.in-Some.ensures)

pub returns-in-None : goal.returns-in-None
returns-in-None c = search (laws.make_full, c.in-None.ensures)
