-- The lines of the errors before this one were put.
use Rattle.std.proofs.Common.{take}
use Rattle.program_support.specs.Lines.{Puts}
use Rattle.report.specs.Lines.{error_lines}
use Rattle.report.proofs.put_errors.Given as goal

abbrev pub invariant-loop-error : goal.invariant-loop-error
invariant-loop-error g l = Puts (error_lines (take l.error-index l.errors)) l.initial.lines l.lines
