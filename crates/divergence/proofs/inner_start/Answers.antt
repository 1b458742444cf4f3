use Rattle.divergence.proofs.Walk as laws
use native.Mathlib.Omega.{arith}
use Rattle.std.proofs.Common.{rules}
use Rattle.divergence.proofs.inner_start.Goals as goal

pub overflow_add-result : goal.overflow_add-result
overflow_add-result c = let b = laws.bounds _ _ _ _ _ c.requires.fine_node in omega (arith, b.head, b.stop, b.few)

pub overflow_add-result-in-70 : goal.overflow_add-result-in-70
overflow_add-result-in-70 c = let b = laws.bounds _ _ _ _ _ c.requires.fine_node in omega (arith, b.head, b.stop, b.few)

pub overflow_add-result-in-71 : goal.overflow_add-result-in-71
overflow_add-result-in-71 c = let b = laws.bounds _ _ _ _ _ c.requires.fine_node in omega (arith, b.head, b.stop, b.few)

pub overflow_add-at : goal.overflow_add-at
overflow_add-at c = let b = laws.bounds _ _ _ _ _ c.requires.fine_node in omega (arith, b.head, b.stop, b.few)

pub length_at-requires : goal.length_at-requires
length_at-requires c = let b = laws.condition_bounds _ _ _ c.requires.fine_node _ _ c.requires.kind_value.0 c.requires.kind_value.1 c.in-71.is in omega (arith, b.head, b.stop)

pub overflow_add-result-in-71-2 : goal.overflow_add-result-in-71-2
overflow_add-result-in-71-2 c = let b = laws.condition_bounds _ _ _ c.requires.fine_node _ _ c.requires.kind_value.0 c.requires.kind_value.1 c.in-71.is in omega (arith, b.head, b.stop, b.few, c.length_at.ensures.small)

pub returns-in-64 : goal.returns-in-64
returns-in-64 c = laws.inner_block _ _ _ c.requires.fine_node _ _ c.requires.kind_value.0 c.requires.kind_value.1 c.in-64.is

pub returns-in-70 : goal.returns-in-70
returns-in-70 c = laws.inner_loop _ _ _ c.requires.fine_node _ _ c.requires.kind_value.0 c.requires.kind_value.1 c.in-70.is

pub returns-in-71 : goal.returns-in-71
returns-in-71 c = laws.inner_after _ _ _ c.requires.fine_node _ _ c.requires.kind_value.0 c.requires.kind_value.1 _ c.length_at.ensures.is c.in-71.is

pub returns-in_default : goal.returns-in_default
returns-in_default c = laws.inner_none _ _ _ c.requires.fine_node _ _ c.requires.kind_value.0 c.requires.kind_value.1 (search rules) (search rules) (search rules)
