-- A law for each kind.
use Rattle.std.proofs.Common.{◌≤◌, ◌<◌, arith}
use Rattle.text.proofs.Decimals.{decimal_at_most_ten}
use Rattle.display.proofs.Openings as laws
use Rattle.display.proofs.Source.opening_length.Goals as goal

pub overflow_add-result : goal.overflow_add-result
overflow_add-result c = let t = decimal_at_most_ten c.size.result in omega (arith, c.decimal_length.ensures)

pub returns-in-7 : goal.returns-in-7
returns-in-7 c =
    let low : 7 ≤ c.kind-kind.result = omega arith in
    let high : c.kind-kind.result < 8 = omega arith in
    search laws.row_size_long
