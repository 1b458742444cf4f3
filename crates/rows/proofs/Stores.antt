-- A part of a list that is written whole.
use Prim.Native.Nat.{ℕ, ◌+◌, ◌≤◌}
use mathlib.Core.Path.{◌≡◌, refl, sym, ◌∙◌}
use mathlib.Core.List.{List}
use native.Mathlib.Omega.{arith}
use lib.ListN.{length}
use lib.Seq.{sets, sets-eq}
use borrow.Rule.Slice.PartMut.{put_mid}
use Rattle.std.proofs.lemmas.Slice.{put_mid-paste}
use Rattle.std.proofs.lemmas.List.{take_all}

-- It is written word by word
pub part_sets : {A : Type 0} (at k : ℕ) (l now part : List A) → now ≡ part → length part ≡ k → at + k ≤ length l → put_mid at k l now ≡ sets l at part
part_sets at k l now part e long room =
    put_mid-paste at k l now part (length part) e long refl ∙ rw (take_all (length part) part (omega arith)) (sym (sets-eq part l at (omega arith)))
