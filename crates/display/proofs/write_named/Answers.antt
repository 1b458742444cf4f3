-- A law for each kind.
use Rattle.std.proofs.Common.{◌≤◌, ◌<◌, arith}
use Rattle.display.proofs.Openings as laws
use Rattle.display.proofs.write_named.Goals as goal

pub returns-in-10 : goal.returns-in-10
returns-in-10 c =
    let kind : c.args.kind < 11 = omega arith in
    search laws.alias_written

pub returns-in_default : goal.returns-in_default
returns-in_default c =
    let kind : 12 ≤ c.args.kind = omega arith in
    search laws.field_written
