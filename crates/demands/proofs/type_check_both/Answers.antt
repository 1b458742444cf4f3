use Rattle.demands.proofs.Laws as laws
use Rattle.demands.proofs.type_check_both.Goals as goal

pub returns : goal.returns
returns c = laws.demands _ _ c.type_check_module-first.ensures c.type_check_module-second.ensures
