use native.Mathlib.Omega.{arith}
use Rattle.listing.proofs.Naming as laws
use Rattle.listing.proofs.list_names.Goals as goal

pub returns-then-s-lt-FIELD_END : goal.returns-then-s-lt-FIELD_END
returns-then-s-lt-FIELD_END c = search laws.names_none

pub loop-next-init : goal.loop-next-init
loop-next-init c = search laws.naming_start

pub shape_of-places : goal.shape_of-places
shape_of-places c = c.loop-next.invariant.long

pub returns : goal.returns
returns c = search (laws.naming_done, c.in_default.ensures)

pub overflow_cast-places : goal.overflow_cast-places
overflow_cast-places c = let f = c.in-Some.ensures in omega arith

pub bounds-places-count : goal.bounds-places-count
bounds-places-count c = search (laws.count_low, c.in-Some.ensures)

pub overflow_add-count : goal.overflow_add-count
overflow_add-count c = let f = c.in-Some.ensures in omega arith

pub loop-next-smaller : goal.loop-next-smaller
loop-next-smaller c = let f = c.in-Some.ensures in omega arith

pub loop-next-preserved : goal.loop-next-preserved
loop-next-preserved c = search (laws.naming_more, c.in-Some.ensures)
