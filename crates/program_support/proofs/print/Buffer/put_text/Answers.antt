use Rattle.std.proofs.Common.{refl}
use Rattle.program_support.proofs.LineLaws.{puts_text}
use Rattle.program_support.proofs.print.Buffer.put_text.Goals as goal

pub returns-clause-ok : goal.returns-clause-ok
returns-clause-ok g c = puts_text _ c.in_ok-self.ensures.ok refl
