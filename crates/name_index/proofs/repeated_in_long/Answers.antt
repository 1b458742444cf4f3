use Rattle.names.proofs.NameLaws as laws
use native.Mathlib.Omega.{arith}
use Rattle.name_index.proofs.repeated_in_long.Goals as goal

pub loop-next-init : goal.loop-next-init
loop-next-init c = search laws.differ_start

pub name_at-requires : goal.name_at-requires
name_at-requires c = let f = c.in-Some.ensures in record { at_bound = (omega arith, omega arith); stop_value = f.is }

pub returns-then-find_name-count : goal.returns-then-find_name-count
returns-then-find_name-count c = search (laws.number_not, c.in-Some.ensures)

pub overflow_add-count : goal.overflow_add-count
overflow_add-count c = let f = c.in-Some.ensures in let r = c.loop-next.invariant.passed.room in omega arith

pub loop-next-smaller : goal.loop-next-smaller
loop-next-smaller c = let f = c.in-Some.ensures in omega arith

pub loop-next-preserved : goal.loop-next-preserved
loop-next-preserved c = search (laws.number_on, c.in-Some.ensures)

pub returns : goal.returns
returns c = search (laws.differ_done, c.in_default.ensures)
