use Rattle.walk.proofs.Cells as laws
use Rattle.walk.specs.Loans.{OnlyRows}
use Rattle.types.specs.Ty.{argument_kind}
use Rattle.declare.specs.Chunk.{argument_cell}
use Rattle.declare.proofs.make_arguments.Given as goal

abbrev pub invariant-loop-i : goal.invariant-loop-i
invariant-loop-i l =
    laws.Left (argument_cell l.kept) argument_kind l.count l.initial.walk.rows.now l.initial.walk.index.now l.initial.walk.state l.initial.rest l.i l.walk.rows.now l.walk.index.now l.walk.state l.rest
    × OnlyRows l.initial.walk l.walk
