use Rattle.convert.proofs.Heads as heads
use native.Mathlib.Omega.{arith}
use Rattle.convert.proofs.type_kind.Goals as goal

pub half-requires : goal.half-requires
half-requires c = omega (arith, heads.head_room _ _ _ c.requires)

pub returns : goal.returns
returns c = heads.type_opened _ _ _ c.requires _ c.half.ensures.is
