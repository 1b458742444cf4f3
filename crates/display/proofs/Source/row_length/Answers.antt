use Rattle.std.proofs.Common.{◌≡◌, length, ap, eqb}
use Rattle.display.specs.Parts.{middle}
use Rattle.display.proofs.Lengths as laws
use Rattle.display.proofs.Source.row_length.Goals as goal

pub returns : goal.returns
returns c =
    let m : length c.middle_text.result.now ≡ length (middle c.kind-kind.result (eqb c.second_part-second.result 0)) = ap length c.middle_text.ensures in
    search laws.row_measured
