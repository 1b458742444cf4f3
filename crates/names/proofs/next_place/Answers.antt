use native.Mathlib.Omega.{arith}
use Rattle.names.proofs.NameLaws as laws
use Rattle.names.proofs.next_place.Goals as goal

pub returns-in_err-room : goal.returns-in_err-room
returns-in_err-room c = rw c.from_residual.ensures (laws.next_past _ _ _ (let h = c.in_err-room.ensures in omega arith))

pub returns-then-room-lt-HEAD_END : goal.returns-then-room-lt-HEAD_END
returns-then-room-lt-HEAD_END c = laws.next_room _ _ _ _ c.in_ok-room.ensures c.if-room-lt-HEAD_END.true

pub returns-then-len-lt-HEAD_END : goal.returns-then-len-lt-HEAD_END
returns-then-len-lt-HEAD_END c = search (laws.next_short, c.in_ok-room.ensures)

pub returns-then-room-len : goal.returns-then-room-len
returns-then-room-len c = search (laws.next_long, c.in_ok-room.ensures)

pub returns : goal.returns
returns c = search (laws.next_found, c.in_ok-room.ensures)
