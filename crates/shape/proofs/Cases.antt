-- Cases on a number. Assumes nothing.
use Prim.Native.Nat.{ℕ, zero, suc, ◌-◌, ◌<◌}
use mathlib.Core.Path.{◌≡◌, refl, sym, subst}
use mathlib.Core.Bool.{Bool, true, false}
use native.Mathlib.Omega.{arith}
use lib.Dec.{eqb}
use borrow.Author.Tests.{eqb-true, eqb-false}

-- It is j, or it is not
pub by_number : {P : Type 0} (k j : ℕ) → (k ≡ j → P) → ((k ≡ j → ⊥) → P) → P
by_number {P} k j here there = go (eqb k j) refl
  where
    go : (b : Bool) → eqb k j ≡ b → P
    go true e = here (eqb-true k j e)
    go false e = there (eqb-false k j e)

-- What holds of each number below n, the last first
unfoldable pub Below : (ℕ → Type 0) → (n : ℕ) → Type 0
Below P zero = Unit {0}
Below P (suc n) = P n × Below P n

pub below : (P : ℕ → Type 0) (n : ℕ) → Below P n → (k : ℕ) → k < n → P k
unfolding Below
below P zero h k l = absurd (omega arith)
below P (suc n) h k l = by_number k n (λ e. subst P (sym e) h.0) (λ ne. below P n h.1 k (omega arith))

-- It is not 0
pub one_less : (n : ℕ) → 0 < n → n ≡ suc (n - 1)
one_less n p = omega arith
