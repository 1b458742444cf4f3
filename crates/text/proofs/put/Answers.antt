use Prim.Native.Nat.{ℕ, ◌+◌}
use mathlib.Core.List.{List}
use mathlib.Core.Path.{refl, ap, ◌∙◌}
use native.Mathlib.Omega.{arith}
use lib.ListN.{length, take, get_or, set}
use lib.Seq.{length-sets}
use Rattle.text.proofs.Writing.{one_more, all_written}
use Rattle.text.proofs.put.Goals as goal

pub loop-i-init : goal.loop-i-init
loop-i-init c = (omega arith, refl)

pub bounds-text-place : goal.bounds-text-place
bounds-text-place c = let l = ap length c.loop-i.invariant.1 ∙ length-sets _ c.args.at (take c.loop-i.i c.args.bytes.now) in
    omega (arith, l, c.requires.room)

pub loop-i-preserved : goal.loop-i-preserved
loop-i-preserved c = (
  omega arith,
  ap (λ (t : List ℕ). set t (c.args.at + c.loop-i.i) (get_or c.args.bytes.now c.loop-i.i 0)) c.loop-i.invariant.1
      ∙ one_more _ _ c.args.at c.loop-i.i (omega arith),
)

pub shape_of-text : goal.shape_of-text
shape_of-text c = ap length c.loop-i.invariant.1 ∙ length-sets _ c.args.at (take c.loop-i.i c.args.bytes.now)

pub returns : goal.returns
returns c = record {
  stored = c.loop-i.invariant.1 ∙ all_written _ _ c.args.at c.loop-i.i (omega arith);
  next = refl;
}
