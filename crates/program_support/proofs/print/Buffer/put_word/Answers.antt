use Rattle.std.proofs.Common.{refl}
use Rattle.program_support.proofs.LineLaws.{puts_number}
use Rattle.program_support.proofs.print.Buffer.put_word.Goals as goal

pub returns-clause-ok : goal.returns-clause-ok
returns-clause-ok g c = puts_number _ c.in_ok-self.ensures.ok refl
