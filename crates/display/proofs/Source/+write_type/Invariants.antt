-- The loop: what is left to write is the text of `row` at `at`. The calls: in the number of the row.
use Rattle.display.proofs.WriteLaws.{Left}
use Rattle.display.specs.Sources.{texts_in}
use Rattle.display.proofs.Source.+write_type.Given as goal

abbrev pub decreases-write_type : goal.decreases-write_type
decreases-write_type l = l.n

abbrev pub invariant-loop-row : goal.invariant-loop-row
invariant-loop-row l = Left (texts_in l.self) l.self.rows.now l.n l.initial.text l.from l.text l.row l.at

abbrev pub decreases-loop-row : goal.decreases-loop-row
decreases-loop-row l = l.row
