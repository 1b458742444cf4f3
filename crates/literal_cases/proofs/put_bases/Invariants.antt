-- What stands before `base` was put.
use Rattle.program_support.specs.Lines.{Puts}
use Rattle.literal_cases.specs.Lines.{base_lines}
use Rattle.literal_cases.proofs.put_bases.Given as goal

abbrev pub invariant-loop-base : goal.invariant-loop-base
invariant-loop-base g l = Puts (base_lines l.base) l.initial.lines l.lines
