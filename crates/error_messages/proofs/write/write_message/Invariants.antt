use Rattle.error_messages.proofs.LineSteps as laws
use Rattle.error_messages.proofs.write.write_message.Given as goal

abbrev pub invariant-loop-byte : goal.invariant-loop-byte
invariant-loop-byte l = laws.LineWriting l.source.s.now l.source.built_in.now l.source.rows.now l.source.count l.error l.line l.initial.text l.from l.text l.at l.byte-index
