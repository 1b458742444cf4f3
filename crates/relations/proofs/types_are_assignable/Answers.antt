use mathlib.Core.Path.{refl}
use Rattle.relations.proofs.AssignLaws.{assign_one, assign_equal, assign_no_target, assign_no_source, assign_no_array, assign_next}
use Rattle.relations.proofs.types_are_assignable.Goals as goal

pub loop-to-init : goal.loop-to-init
loop-to-init c = (c.requires.first, c.requires.second, refl)

pub returns-then-to-from : goal.returns-then-to-from
returns-then-to-from c = search assign_one

pub returns-then-t-s : goal.returns-then-t-s
returns-then-t-s c = search assign_equal

pub returns-then-kind-ne-POINTER : goal.returns-then-kind-ne-POINTER
returns-then-kind-ne-POINTER c = search assign_no_target

pub returns-then-kind-ne-POINTER-2 : goal.returns-then-kind-ne-POINTER-2
returns-then-kind-ne-POINTER-2 c = search assign_no_source

pub returns-then-kind-ne-ARRAY : goal.returns-then-kind-ne-ARRAY
returns-then-kind-ne-ARRAY c = search assign_no_array

pub loop-to-preserved : goal.loop-to-preserved
loop-to-preserved c = (c.part-to.ensures.is, c.part-from.ensures.is, search assign_next)
