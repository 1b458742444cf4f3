use Rattle.walk.proofs.Cells as laws
use Rattle.walk.specs.Loans.{OnlyRows}
use Rattle.types.specs.Ty.{field_kind}
use Rattle.convert.specs.Chunk.{field_cell}
use Rattle.convert.proofs.make_fields.Given as goal

abbrev pub invariant-loop-left : goal.invariant-loop-left
invariant-loop-left l =
    laws.Left (field_cell l.kept) field_kind l.count l.initial.walk.rows.now l.initial.walk.index.now l.initial.walk.state l.initial.rest l.left l.walk.rows.now l.walk.index.now l.walk.state l.rest
    × OnlyRows l.initial.walk l.walk

abbrev pub decreases-loop-left : goal.decreases-loop-left
decreases-loop-left l = l.left
