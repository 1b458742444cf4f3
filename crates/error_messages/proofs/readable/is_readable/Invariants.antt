use Rattle.error_messages.proofs.LineSteps as laws
use Rattle.error_messages.proofs.readable.is_readable.Given as goal

abbrev pub invariant-loop-byte : goal.invariant-loop-byte
invariant-loop-byte l = laws.LineTesting l.source.s.now l.source.built_in.now l.source.rows.now l.source.count l.error l.line l.byte-index
