use Rattle.convert.proofs.Heads as heads
use native.Mathlib.Omega.{arith}
use Rattle.convert.proofs.field_head.Goals as goal

pub word-requires : goal.word-requires
word-requires c = omega (arith, heads.field_room _ _ _ _ c.requires.fine_nodes c.requires.from_lt_end)

pub length_at-requires : goal.length_at-requires
length_at-requires c = omega (arith, heads.field_room _ _ _ _ c.requires.fine_nodes c.requires.from_lt_end)

pub returns : goal.returns
returns c = search heads.field_opened
