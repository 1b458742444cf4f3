-- The digits of a base read one after the other: what is left to answer at each place. Assumes nothing.
use Prim.Native.Nat.{ℕ, ◌+◌, ◌-◌, ◌*◌, ◌≤◌, ◌<◌}
use mathlib.Core.Path.{◌≡◌}
use mathlib.Core.Logic.{◌⊎◌, inl, inr}
use mathlib.Core.Bool.{and-false}
use mathlib.Core.List.{List, ◌∷◌}
use mathlib.Core.Option.{none, some}
use native.Mathlib.Numerals.{add-one}
use native.Mathlib.Omega.{arith}
use lib.ListN.{length, get_or, drop, drop_of_length-le}
use lib.Seq.{drop-cons}
use borrow.Author.Tests.{lt-ltb, le-ltb, le-leb, lt-leb}
use Rattle.literal_cases.specs.Numbers.{decimal_from, decimal}

module _ (digits : List ℕ) where
  pub none_there : length digits < 1 → none ≡ decimal digits
  unfolding decimal
  none_there p = simp (le-ltb 0 (length digits) (omega arith))

  pub begun : 1 ≤ length digits → decimal digits ≡ decimal_from 0 (drop 0 digits)
  unfolding decimal
  begun p = simp (lt-ltb 0 (length digits) (omega arith))

  module _ (number i : ℕ) (known : decimal digits ≡ decimal_from number (drop i digits)) where
    pub ended : length digits ≤ i → some number ≡ decimal digits
    unfolding decimal_from
    ended p = simp (known, drop_of_length-le)

    module _ (more : i < length digits) where
      next : drop i digits ≡ get_or digits i 0 ∷ drop (i + 1) digits
      next = rw (add-one, drop-cons digits i 0)

      pub no_digit : (get_or digits i 0 < 48) ⊎ (48 ≤ get_or digits i 0 × 57 < get_or digits i 0) → none ≡ decimal digits
      unfolding decimal_from
      no_digit (inl p) = simp (known, next, lt-leb 48 (get_or digits i 0) p)
      no_digit (inr p) = simp (known, next, lt-leb (get_or digits i 0) 57 p.1, and-false)

      module _ (low : 48 ≤ get_or digits i 0) (high : get_or digits i 0 ≤ 57) where
        pub too_large : 4294967295 < number * 10 + (get_or digits i 0 - 48) → none ≡ decimal digits
        unfolding decimal_from
        too_large p = simp (known, next, lt-leb _ _ p, and-false)

        pub one_digit : number * 10 + (get_or digits i 0 - 48) ≤ 4294967295 → decimal digits ≡ decimal_from (number * 10 + (get_or digits i 0 - 48)) (drop (i + 1) digits)
        unfolding decimal_from
        one_digit p = rw (known, next, decimal_from, le-leb 48 (get_or digits i 0) low, le-leb (get_or digits i 0) 57 high, le-leb _ _ p)
