use mathlib.Core.Path.{refl}
use native.Mathlib.Omega.{arith}
use Rattle.listing.proofs.Before.{few_before}
use Rattle.listing.proofs.Marking as laws
use Rattle.listing.proofs.children_start.Goals as goal

pub overflow_add-result : goal.overflow_add-result
overflow_add-result c = let l = few_before c.half.result in omega (arith, c.in-Some.ensures.value)

pub returns-in-None : goal.returns-in-None
returns-in-None c = laws.none_before _ _ _ _ 0 c.half.ensures c.in-None.ensures.value refl

pub returns-in-Some : goal.returns-in-Some
returns-in-Some c = laws.some_before _ _ _ _ _ c.half.ensures c.in-Some.ensures.value (λ e. let some = c.in-Some.ensures.some in omega arith)
