-- The names of the rows exist, row by row. Assumes nothing.
use Prim.Native.Nat.{ℕ, ◌+◌, ◌≤◌, ◌<◌}
use native.Mathlib.Omega.{arith}
use native.Mathlib.Decide.{dec_le}
use mathlib.Core.Path.{◌≡◌, subst}
use mathlib.Core.Bool.{Bool, true, false, not}
use mathlib.Core.List.{List}
use borrow.Author.Tests.{not-false}
use Rattle.rows.specs.Search.{Decides}
use Rattle.rows.proofs.Decide.{holds}
use Rattle.names.specs.Names.{name_count}
use Rattle.display.specs.Names.{NamesExist}
use Rattle.error_messages.specs.Inner.{Named}

-- The rows 1 to n have names that exist
pub record NamedTo (s w : List ℕ) (count n : ℕ) : Type 0 where
  pub high : n ≤ count
  pub named : (k : ℕ) → 1 ≤ k → k ≤ n → Named w k (name_count s)

module _ (s w : List ℕ) (count n : ℕ) (to : NamedTo s w count n) where
  module _ (names : ℕ) (many : names ≡ name_count s) (p : n < count) (r : Bool) (d : Decides (Named w (n + 1) names) r) where
    pub named_more : not r ≡ false → NamedTo s w count (n + 1)
    named_more e =
        record {
          high = omega arith;
          named = λ k l h.
              elim (dec_le k n) [
                | yes q ↦ to.named k l q
                | no q ↦ let i : n + 1 ≡ k = omega arith in subst (λ (m : ℕ). Named w m (name_count s)) i (subst (Named w (n + 1)) many (d.yes (not-false r e)))
              ];
        }

  pub named_all : count ≤ n → Decides (NamesExist s w count) true
  named_all p = holds (record { each = λ k l h a b. (to.named k l (omega (arith, h, p))).name a b })
