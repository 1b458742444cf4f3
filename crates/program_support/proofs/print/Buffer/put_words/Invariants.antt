-- The words before this one were put.
use Rattle.std.proofs.Common.{take}
use Rattle.program_support.specs.Buffer.{word_pieces}
use Rattle.program_support.specs.Lines.{Puts}
use Rattle.program_support.proofs.print.Buffer.put_words.Given as goal

abbrev pub invariant-loop-word : goal.invariant-loop-word
invariant-loop-word g l = Puts (word_pieces (take l.word-index l.words)) l.initial.self l.self
