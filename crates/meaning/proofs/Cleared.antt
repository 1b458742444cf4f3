-- Laws of `cleared`: lists of which the first are 0. Assumes nothing.
use Prim.Native.Nat.{ℕ, ◌+◌, ◌≤◌}
use mathlib.Core.Path.{◌≡◌, sym, ◌∙◌, ap}
use mathlib.Core.List.{List, ◌++◌, append-nil}
use native.Mathlib.Omega.{arith}
use lib.ListN.{length, drop, replicate, length-append, length-replicate, length-drop}
use lib.Seq.{drop-length}
use Rattle.meaning.specs.Promise.{cleared}

pub cleared_all : (l : List ℕ) → cleared (length l) l ≡ replicate (length l) 0
cleared_all l = ap (λ (x : List ℕ). replicate (length l) 0 ++ x) (drop-length l) ∙ append-nil (replicate (length l) 0)

pub cleared_long : (n : ℕ) (l : List ℕ) → n ≤ length l → length (cleared n l) ≡ length l
cleared_long n l p = length-append (replicate n 0) (drop n l) ∙ (let a : length (replicate {A = ℕ} n 0) ≡ n = length-replicate n 0 in let b = length-drop n l in omega arith)

pub cleared_same : (k l : List ℕ) → length k ≡ length l → cleared (length k) k ≡ cleared (length l) l
cleared_same k l e = cleared_all k ∙ ap (λ (n : ℕ). replicate n 0) e ∙ sym (cleared_all l)
