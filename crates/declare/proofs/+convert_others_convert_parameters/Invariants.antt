-- `convert_parameters` and `convert_others` call each other with fewer bytes left.
use Prim.Native.Nat.{◌+◌, ◌-◌, ◌*◌}
use Rattle.declare.proofs.+convert_others_convert_parameters.Given as goal

abbrev pub decreases-convert_others : goal.decreases-convert_others
decreases-convert_others l = 2 * (l.list.end - l.list.from) + 1

abbrev pub decreases-convert_parameters : goal.decreases-convert_parameters
decreases-convert_parameters l = 2 * (l.list.end - l.list.from)
