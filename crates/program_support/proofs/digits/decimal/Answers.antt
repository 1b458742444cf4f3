use Rattle.program_support.proofs.DigitLaws.{log_count}
use Rattle.program_support.proofs.digits.decimal.Goals as goal

pub returns-clause-count : goal.returns-clause-count
returns-clause-count c = log_count c.args.n c.max.result c.ilog10.result c.max.ensures c.ilog10.ensures.power_le c.ilog10.ensures.next_power_gt
