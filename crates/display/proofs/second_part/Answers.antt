-- A law for each kind.
use Rattle.std.proofs.Common.{◌≤◌, arith, rules}
use Rattle.display.proofs.PartRows as laws
use Rattle.display.proofs.second_part.Goals as goal

pub rest-requires : goal.rest-requires
rest-requires c =
    let first : 1 ≤ c.kind.result = search laws.first_kind in
    let kind : 12 ≤ c.kind.result = omega arith in
    search rules

pub returns-in-1-to-11 : goal.returns-in-1-to-11
returns-in-1-to-11 c = search laws.second_low

pub returns-in_default : goal.returns-in_default
returns-in_default c =
    let first : 1 ≤ c.kind.result = search laws.first_kind in
    let kind : 12 ≤ c.kind.result = omega arith in
    search laws.second_rest
