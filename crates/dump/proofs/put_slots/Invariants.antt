use Rattle.std.proofs.Common.{◌-◌, length}
use Rattle.dump.proofs.put_slots.Given as goal

abbrev pub decreases-loop-at : goal.decreases-loop-at
decreases-loop-at g l = length l.output - l.at
