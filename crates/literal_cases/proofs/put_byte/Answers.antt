use Rattle.std.proofs.Common.{refl}
use Rattle.std.specs.Prelude.{None}
use Rattle.literal_cases.proofs.LineLaws as lines
use Rattle.literal_cases.proofs.put_byte.Goals as goal

pub returns-in-None-clause-ok : goal.returns-in-None-clause-ok
returns-in-None-clause-ok g c = lines.no_value _ _ None c.in-None.ensures refl _
