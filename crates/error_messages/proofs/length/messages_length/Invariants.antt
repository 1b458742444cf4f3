use Rattle.error_messages.proofs.ErrorSteps as laws
use Rattle.error_messages.proofs.length.messages_length.Given as goal

abbrev pub invariant-loop-i : goal.invariant-loop-i
invariant-loop-i l = laws.ErrorsCounting l.source.s.now l.source.built_in.now l.source.rows.now l.source.count l.errors l.many l.total l.i
