use native.Mathlib.Omega.{arith}
use Rattle.declare.proofs.Heads as heads
use Rattle.declare.proofs.parameter_end.Goals.{then-list-via-then-list, then-list-via-else-list+then-half-ne-PARAMETER}
use Rattle.declare.proofs.parameter_end.Goals as goal

pub half-requires : goal.half-requires
half-requires c = omega (arith, heads.head_room _ _ _ _ c.requires c.if-list.false)

pub returns-then-list : goal.returns-then-list
returns-then-list c =
    elim c.then-list.branch [
      | then-list-via-then-list w ↦ heads.end_past _ _ _ _ c.requires w.if-list.true
      | then-list-via-else-list+then-half-ne-PARAMETER w ↦ heads.end_body _ _ _ _ c.requires w.if-list.false _ w.half.ensures w.if-half-ne-PARAMETER.true
    ]

pub length_at-requires : goal.length_at-requires
length_at-requires c = omega (arith, heads.head_room _ _ _ _ c.requires c.if-list.false)

pub returns : goal.returns
returns c = search heads.end_parameter
