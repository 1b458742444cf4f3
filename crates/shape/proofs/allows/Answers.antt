use Rattle.shape.specs.Shape.{allowed}
use Rattle.shape.proofs.allows.Goals as goal

pub returns-in-Unused : goal.returns-in-Unused
unfolding allowed
returns-in-Unused c = rw c.in-Unused.is

pub returns-in-Slot : goal.returns-in-Slot
unfolding allowed
returns-in-Slot c = rw c.in-Slot.is

pub returns-in-Name : goal.returns-in-Name
unfolding allowed
returns-in-Name c = rw c.in-Name.is

pub returns-in-Any : goal.returns-in-Any
unfolding allowed
returns-in-Any c = rw c.in-Any.is

pub returns-in-Base : goal.returns-in-Base
unfolding allowed
returns-in-Base c = rw c.in-Base.is c.between.ensures

pub returns-in-Flag : goal.returns-in-Flag
unfolding allowed
returns-in-Flag c = rw c.in-Flag.is

pub returns-in-Operator : goal.returns-in-Operator
unfolding allowed
returns-in-Operator c = rw c.in-Operator.is c.between-in-Operator.ensures

pub returns-in-Comparison : goal.returns-in-Comparison
unfolding allowed
returns-in-Comparison c = rw c.in-Comparison.is c.between-in-Comparison.ensures

pub returns-in-Flags : goal.returns-in-Flags
unfolding allowed
returns-in-Flags c = rw c.in-Flags.is
