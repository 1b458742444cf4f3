use Rattle.shape.specs.Shape.{is_done}
use Rattle.shape.proofs.is_done.Goals as goal

pub returns-then-due : goal.returns-then-due
unfolding is_done
returns-then-due c = simp c.if-due.true

pub returns-then-due-2 : goal.returns-then-due-2
unfolding is_done
returns-then-due-2 c = simp (c.if-due.false, c.if-due-2.true)

pub returns-else-due-2 : goal.returns-else-due-2
unfolding is_done
returns-else-due-2 c = simp (c.if-due.false, c.if-due-2.false)
