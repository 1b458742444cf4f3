-- The table of digits: its rule, tested over the whole of it. Assumes nothing.
use Prim.Native.Nat.{ℕ, zero, suc, ◌+◌, ◌^◌, ◌≤◌, ◌<◌}
use mathlib.Core.Path.{◌≡◌, refl, sym, ap, subst, ◌∙◌}
use mathlib.Core.Bool.{Bool, true, false, ◌&&◌, and-false, and-eq-true_iff}
use mathlib.Core.List.{List}
use native.Mathlib.Omega.{arith}
use lib.Dec.{eqb, ltb}
use lib.ListN.{length, get_or, set, length-set}
use lib.Seq.{get_or-set_same, get_or-set_other}
use borrow.Author.Tests.{le-leb, lt-leb, eqb-true, eqb-false, ltb-true}
use Rattle.literal.specs.Literal.{in_range, digit_value}
use Rattle.literal.specs.Digits.{bytes, DigitTable}

-- The test passes at each number below n
abbrev pub passes_below : (n : ℕ) → (test : ℕ → Bool) → Bool
passes_below zero test = true
passes_below (suc n) test = test n && passes_below n test

-- One computed test of all numbers below n is the test of each of them
pub passed : (n : ℕ) (test : ℕ → Bool) → passes_below n test ≡ true → (k : ℕ) → k < n → test k ≡ true
passed zero test e k h = absurd (omega arith)
passed (suc n) test e k h =
    let both = (and-eq-true_iff (test n) (passes_below n test)).0 e in
    go both.0 (passed n test both.1 k) (eqb k n) refl
  where
    go : test n ≡ true → (k < n → test k ≡ true) → (b : Bool) → eqb k n ≡ b → test k ≡ true
    go last below true q = ap test (eqb-true k n q) ∙ last
    go last below false q = let ne = eqb-false k n q in below (omega arith)

-- The rule of the table, tested at all 256 bytes: digits and letters of either case have their worth in base 36, every other byte has 255
pub record Tested (values : List ℕ) : Type 0 where
  pub passes : passes_below bytes (λ byte. eqb (get_or values byte 0) (digit_value byte)) ≡ true

-- The first bytes of the table are written, with the values of a table that was tested
pub record Written (values table : List ℕ) (byte : ℕ) : Type 0 where
  pub tested : Tested values
  pub long : length table ≡ bytes
  pub few : byte ≤ bytes
  pub worth : (k : ℕ) → k < byte → get_or table k 0 ≡ digit_value k

pub written_none : (values table : List ℕ) → Tested values → length table ≡ bytes → Written values table 0
written_none values table t e = record { tested = t; long = e; few = omega arith; worth = λ k h. absurd (omega arith) }

module _ (values table : List ℕ) (byte : ℕ) (w : Written values table byte) where
  module _ (h : byte < bytes) where
    value : get_or values byte 0 ≡ digit_value byte
    value = eqb-true _ _ (passed bytes (λ k. eqb (get_or values k 0) (digit_value k)) w.tested.passes byte h)

    pub value_fits : get_or values byte 0 < 2 ^ 16
    unfolding digit_value
    value_fits = subst (λ (v : ℕ). v < 2 ^ 16) (sym value) (ltb-true _ _ (passed bytes (λ k. ltb (digit_value k) (2 ^ 16)) refl byte h))

    pub written_more : Written values (set table byte (get_or values byte 0)) (byte + 1)
    written_more = record { tested = w.tested; long = simp length-set w.long; few = omega arith; worth = λ k l. go k l (eqb k byte) refl }
      where
        go : (k : ℕ) → k < byte + 1 → (b : Bool) → eqb k byte ≡ b → get_or (set table byte (get_or values byte 0)) k 0 ≡ digit_value k
        go k l true q =
            let room : byte < length table = omega (arith, w.long) in
            ap (λ (i : ℕ). get_or (set table byte (get_or values byte 0)) i 0) (eqb-true k byte q)
            ∙ get_or-set_same table byte (get_or values byte 0) 0 room
            ∙ value
            ∙ ap digit_value (sym (eqb-true k byte q))
        go k l false q = let ne = eqb-false k byte q in get_or-set_other table byte k (get_or values byte 0) 0 ne ∙ w.worth k (omega arith)

  pub written_all : bytes ≤ byte → DigitTable table
  written_all h = record { long = w.long; worth = λ k l. w.worth k (omega arith) }

-- A table that was tested is the table of digits
pub tested_table : (values : List ℕ) → length values ≡ bytes → Tested values → DigitTable values
tested_table values long tested = record {
  long = long;
  worth = λ byte h. eqb-true _ _ (passed bytes (λ k. eqb (get_or values k 0) (digit_value k)) tested.passes byte h);
}

-- A number in a range, under it or past it
module _ (first last number : ℕ) where
  pub inside : first ≤ number → number ≤ last → in_range first last number ≡ true
  inside p q = simp (le-leb first number p, le-leb number last q)

  pub under : number < first → in_range first last number ≡ false
  under p = simp (lt-leb first number p)

  pub past : last < number → in_range first last number ≡ false
  past p = simp (lt-leb number last p, and-false)
