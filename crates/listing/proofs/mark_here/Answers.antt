use Rattle.listing.proofs.Marking as laws
use Rattle.listing.proofs.mark_here.Goals as goal

pub returns-then-half-eq-INTEGER : goal.returns-then-half-eq-INTEGER
returns-then-half-eq-INTEGER c = search laws.here_yes

pub returns-else-half-eq-INTEGER : goal.returns-else-half-eq-INTEGER
returns-else-half-eq-INTEGER c = search laws.here_not
