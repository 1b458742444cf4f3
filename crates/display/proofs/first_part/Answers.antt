-- A law for each kind.
use Rattle.std.proofs.Common.{◌≤◌, ◌<◌, ◌≡◌, arith, rules}
use Rattle.display.proofs.PartRows as laws
use Rattle.display.proofs.first_part.Goals as goal

pub part-requires : goal.part-requires
part-requires c =
    let first : 1 ≤ c.kind.result = search laws.first_kind in
    let kind : 6 ≤ c.kind.result = omega arith in
    search rules

pub returns-in_default : goal.returns-in_default
returns-in_default c =
    let first : 1 ≤ c.kind.result = search laws.first_kind in
    let kind : 6 ≤ c.kind.result = omega arith in
    search laws.first_type_lem

pub returns-in-1-to-5 : goal.returns-in-1-to-5
returns-in-1-to-5 c =
    let kind : c.kind.result ≡ 11 = omega arith in
    let high : 6 ≤ c.kind.result = omega arith in
    search laws.first_distinct

pub returns-in-1-to-5-2 : goal.returns-in-1-to-5-2
returns-in-1-to-5-2 c =
    let kind : c.kind.result < 6 = omega arith in
    search laws.first_low
