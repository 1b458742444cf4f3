-- What stands before `byte` was put.
use Rattle.program_support.specs.Lines.{Puts}
use Rattle.literal_cases.specs.Lines.{bytes_alone}
use Rattle.literal_cases.proofs.put_bytes.Given as goal

abbrev pub invariant-loop-byte : goal.invariant-loop-byte
invariant-loop-byte g l = Puts (bytes_alone l.base l.byte) l.initial.lines l.lines
