use Rattle.std.proofs.Common.{◌-◌, ◌≤◌, length, arith}
use borrow.Rule.Slice.PartMut.{same_len_mid}
use Rattle.program_support.proofs.InputLaws.{full_step, room}
use Rattle.program_support.proofs.input.read_full.Goals as goal

pub loop-done-preserved : goal.loop-done-preserved
loop-done-preserved g c =
    let l = c.loop-done in
    let ys = c.read.new.buf in
    let e = same_len_mid l.done (length l.buffer - l.done) l.buffer ys c.read.auto.buf in
    let r = room l.done l.buffer ys l.invariant.0 c.read.auto.buf in
    let n : c.in_ok-n.n ≤ length ys = c.in_ok-n.ensures.bound.0 in
    (omega (arith, e, r), omega (arith, e), full_step _ _ _ l.done (length l.buffer - l.done) c.in_ok-n.n l.buffer ys l.invariant.0 n l.invariant.2 c.in_ok-n.ensures.bytes.0)
