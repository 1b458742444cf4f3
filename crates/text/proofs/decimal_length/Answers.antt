use Rattle.std.proofs.Common.{rules}
use Rattle.text.proofs.Decimals.{log_digits}
use Rattle.text.proofs.decimal_length.Goals as goal

pub returns : goal.returns
returns c = search (rules, log_digits)
