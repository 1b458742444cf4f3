use Rattle.error_messages.proofs.LineSteps as laws
use Rattle.error_messages.proofs.length.message_length.Given as goal

abbrev pub invariant-loop-byte : goal.invariant-loop-byte
invariant-loop-byte l = laws.LineCounting l.source.s.now l.source.built_in.now l.source.rows.now l.source.count l.error l.line l.total l.byte-index
