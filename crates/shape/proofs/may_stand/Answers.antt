use Rattle.shape.specs.Shape.{may_stand}
use borrow.Author.Tests.{eq-eqb, ne_eqb}
use Rattle.shape.proofs.may_stand.Goals as goal

pub returns-then-class-due : goal.returns-then-class-due
unfolding may_stand
returns-then-class-due c = simp (eq-eqb _ _ c.if-class-due.true)

pub returns-else-class-due : goal.returns-else-class-due
unfolding may_stand
returns-else-class-due c = simp (ne_eqb _ _ c.if-class-due.false)
