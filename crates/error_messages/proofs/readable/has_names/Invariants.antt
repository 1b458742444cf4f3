use Rattle.error_messages.proofs.RowNames as laws
use Rattle.error_messages.proofs.readable.has_names.Given as goal

abbrev pub invariant-loop-n : goal.invariant-loop-n
invariant-loop-n l = laws.NamedTo l.s l.rows l.count l.n
