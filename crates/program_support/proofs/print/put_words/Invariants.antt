-- The words before i were put.
use Rattle.std.proofs.Common.{length, take, ◌-◌}
use Rattle.program_support.specs.Buffer.{PutAll, word_pieces}
use Rattle.program_support.proofs.print.put_words.Given as goal

abbrev pub invariant-loop-i : goal.invariant-loop-i
invariant-loop-i g l = PutAll (word_pieces (take l.i l.words)) l.initial.buffer l.used l.buffer l.held

abbrev pub decreases-loop-i : goal.decreases-loop-i
decreases-loop-i g l = length l.words - l.i
