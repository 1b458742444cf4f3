use Rattle.divergence.proofs.Walk as laws
use native.Mathlib.Omega.{arith}
use mathlib.Core.Path.{ap}
use Prim.Native.Nat.{ℕ, ◌+◌}
use Rattle.divergence.proofs.inner_statements.Goals as goal

pub half-kind-requires : goal.half-kind-requires
half-kind-requires c = let b = laws.bounds _ _ _ _ _ c.requires in omega (arith, b.head, b.stop)

pub length_at-requires : goal.length_at-requires
length_at-requires c = let b = laws.bounds _ _ _ _ _ c.requires in omega (arith, b.head, b.stop)

pub inner_start-requires : goal.inner_start-requires
inner_start-requires c = record { fine_node = c.requires; kind_value = (c.half-kind.ensures.is, ap (λ (x : ℕ). c.args.node.at + x) c.length_at.ensures.is) }

pub returns : goal.returns
returns c = c.inner_start.ensures
