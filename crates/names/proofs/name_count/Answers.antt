use native.Mathlib.Omega.{arith}
use Rattle.names.proofs.NameLaws as laws
use Rattle.names.proofs.name_count.Goals as goal

pub returns-then-s-lt-FIELD_END : goal.returns-then-s-lt-FIELD_END
returns-then-s-lt-FIELD_END c = search laws.count_short

pub loop-next-init : goal.loop-next-init
loop-next-init c = search laws.passed_start

pub overflow_add-count : goal.overflow_add-count
overflow_add-count c = let f = c.in-Some.ensures in omega arith

pub loop-next-smaller : goal.loop-next-smaller
loop-next-smaller c = let f = c.in-Some.ensures in omega arith

pub loop-next-preserved : goal.loop-next-preserved
loop-next-preserved c = search (laws.passed_on, c.in-Some.ensures)

pub returns : goal.returns
returns c = search (laws.count_done, c.in_default.ensures)
