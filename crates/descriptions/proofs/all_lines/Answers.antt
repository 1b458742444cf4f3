use mathlib.Core.Path.{refl}
use Rattle.descriptions.specs.Descriptions.{lines_of, all_lines}
use Rattle.descriptions.proofs.all_lines.Goals as goal

pub returns : goal.returns
unfolding all_lines lines_of
returns c = refl
