use mathlib.Core.Path.{◌≡◌, refl, ap, ◌∙◌, subst}
use mathlib.Core.List.{List, ◌++◌}
use Prim.Native.Nat.{ℕ, suc, ◌+◌, ◌<◌}
use native.Mathlib.Omega.{arith}
use lib.ListN.{length, get_or, set, drop, length-set}
use lib.Seq.{paste, paste-zero, paste-suc, take-length}
use borrow.Author.Rules.{rules}
use Rattle.type_check.proofs.copy_bytes.Goals as goal

one_more : (d s : List ℕ) (i : ℕ) → i < length d → i < length s → set (paste d 0 s i) i (get_or s i 0) ≡ paste d 0 s (i + 1)
one_more d s i p q =
    let a : 0 + i ≡ i = omega arith in
    let b : suc i ≡ i + 1 = omega arith in
    subst (λ (k : ℕ). set (paste d 0 s i) k (get_or s i 0) ≡ paste d 0 s (i + 1)) a (paste-suc d 0 s i 0 (omega arith) q ∙ ap (paste d 0 s) b)

whole : (d s : List ℕ) (i : ℕ) → i ≡ length s → paste d 0 s i ≡ s ++ drop (length s) d
whole d s i e =
    let a : 0 + length s ≡ length s = omega arith in
    ap (paste d 0 s) e ∙ (λ j. take-length s j ++ drop (a j) d)

pub loop-i-init : goal.loop-i-init
loop-i-init c = (paste-zero c.args.output.now 0 c.args.input.now, omega arith, refl)

pub loop-i-preserved : goal.loop-i-preserved
loop-i-preserved c = let k = c.loop-i in
    let args = c.args in (
      ap (λ (x : List ℕ). set x k.i (get_or args.input.now k.i 0)) k.invariant.0 ∙ one_more args.output.now args.input.now k.i (search rules) (search rules),
      search rules,
      length-set k.output k.i _ ∙ k.invariant.2,
    )

pub shape_of-output : goal.shape_of-output
shape_of-output c = c.loop-i.invariant.2

pub returns : goal.returns
returns c = let k = c.loop-i in
    let args = c.args in
    k.invariant.0 ∙ whole args.output.now args.input.now k.i (omega (arith, k.invariant.1, c.loop-i-test.false))
