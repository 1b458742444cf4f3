use Rattle.compound_rules.proofs.Tables as tables
use Rattle.compound_rules.proofs.check_repeats.Goals as goal

pub overflow_sub-end : goal.overflow_sub-end
overflow_sub-end c = search tables.in_order
