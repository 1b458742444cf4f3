use native.Mathlib.Omega.{arith}
use Rattle.names.proofs.NameLaws as laws
use Rattle.names.proofs.find_name.Goals as goal

pub returns-then-s-lt-FIELD_END : goal.returns-then-s-lt-FIELD_END
returns-then-s-lt-FIELD_END c = search laws.find_short

pub loop-next-init : goal.loop-next-init
loop-next-init c = search laws.find_start

pub name_at-requires : goal.name_at-requires
name_at-requires c = let f = c.in-Some.ensures in record { at_bound = (omega arith, omega arith); stop_value = f.is }

pub returns-then-same_bytes : goal.returns-then-same_bytes
returns-then-same_bytes c = search (laws.find_hit, c.in-Some.ensures)

pub overflow_add-count : goal.overflow_add-count
overflow_add-count c = let f = c.in-Some.ensures in omega arith

pub loop-next-smaller : goal.loop-next-smaller
loop-next-smaller c = let f = c.in-Some.ensures in omega arith

pub loop-next-preserved : goal.loop-next-preserved
loop-next-preserved c = search (laws.find_on, c.in-Some.ensures)

pub returns : goal.returns
returns c = search (laws.find_done, c.in_default.ensures)
