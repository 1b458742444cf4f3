use native.Mathlib.Omega.{arith}
use Rattle.node.proofs.Open as laws
use Rattle.node.proofs.enter.Goals as goal

pub half-kind-requires : goal.half-kind-requires
half-kind-requires c = let o = laws.opened _ _ _ _ _ c.requires in omega arith

pub length_at-requires : goal.length_at-requires
length_at-requires c = let o = laws.opened _ _ _ _ _ c.requires in omega arith

pub returns : goal.returns
returns c = search laws.enters
