use native.Mathlib.Omega.{arith}
use mathlib.Core.Bool.{not}
use mathlib.Core.Path.{ap}
use Rattle.layout.proofs.LayoutLaws as laws
use Rattle.layout.proofs.head_at.Goals as goal

pub returns-then-room-lt-HEAD_END : goal.returns-then-room-lt-HEAD_END
returns-then-room-lt-HEAD_END c = search laws.head_room

pub returns-then-room-len : goal.returns-then-room-len
returns-then-room-len c = search laws.head_long

pub returns-then-len-fields : goal.returns-then-len-fields
returns-then-len-fields c = search laws.head_short

pub returns-then-not-may_stand : goal.returns-then-not-may_stand
returns-then-not-may_stand c = search laws.head_class

pub is_bad-requires : goal.is_bad-requires
is_bad-requires c = λ q. omega arith

pub returns-then-is_bad : goal.returns-then-is_bad
returns-then-is_bad c = search laws.head_first

pub is_bad-requires-2 : goal.is_bad-requires-2
is_bad-requires-2 c = λ q. omega arith

pub returns-then-is_bad-2 : goal.returns-then-is_bad-2
returns-then-is_bad-2 c = laws.head_second _ _ _ _ _ _ c.length_at-len.ensures.is c.if-room-lt-HEAD_END.false _ _ c.half.ensures.is c.shape_of-shape.ensures.is c.if-room-len.false c.if-len-fields.false _ c.may_stand.ensures (ap not c.if-not-may_stand.false) _ c.is_bad.ensures c.if-is_bad.false _ c.is_bad-2.ensures c.if-is_bad-2.true

pub returns : goal.returns
returns c = laws.head_good _ _ _ _ _ _ c.length_at-len.ensures.is c.if-room-lt-HEAD_END.false _ _ c.half.ensures.is c.shape_of-shape.ensures.is c.if-room-len.false c.if-len-fields.false _ c.may_stand.ensures (ap not c.if-not-may_stand.false) _ c.is_bad.ensures c.if-is_bad.false _ c.is_bad-2.ensures _ c.if-is_bad-2.false c.state_after.ensures
