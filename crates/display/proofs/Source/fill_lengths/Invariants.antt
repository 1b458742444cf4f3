-- The loop: the working words of the first i rows are filled.
use Rattle.display.specs.Sources.{texts_in}
use Rattle.display.specs.Length.{Filled}
use Rattle.display.proofs.Source.fill_lengths.Given as goal

abbrev pub invariant-loop-i : goal.invariant-loop-i
invariant-loop-i l = Filled (texts_in l.self) l.self.rows.now l.i l.initial.work l.work
