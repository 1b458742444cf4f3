-- Sizes counted no further than 65,536 lose nothing that the answer needs.
use Prim.Native.Nat.{ℕ, zero, suc, ◌*◌, ◌^◌, ◌≤◌, ◌<◌}
use mathlib.Core.Path.{◌≡◌}
use native.Mathlib.Omega.{arith}
use native.Mathlib.Decide.{dec_le}
use native.Mathlib.Nat.{le-mul_of_pos_right, le-pred_of_lt, mul_comm, mul-le-mul, zero-mul}
use Rattle.size_words.specs.SizeWords.{capped, too_large_word, unknown_word}

-- A capped product is that of the capped factor, a size of 0 included
pub product_capped : (size words : ℕ) → capped (size * words) ≡ capped (size * capped words)
product_capped zero n = simp zero-mul
product_capped (suc s) n = elim (dec_le n too_large_word) [ yes h ↦ below h | no h ↦ above (omega arith) ]
  where
    below : n ≤ too_large_word → capped (suc s * n) ≡ capped (suc s * capped n)
    below h = let e : capped n ≡ n = omega arith in rw e

    above : too_large_word ≤ n → capped (suc s * n) ≡ capped (suc s * capped n)
    above h =
        let e : capped n ≡ too_large_word = omega arith in
        let p : n ≤ suc s * n = rw mul_comm (le-mul_of_pos_right n (omega arith)) in
        rw e (omega arith)

-- A product of two words is no longer than two words. Cited by nothing here now
pub product_fits : (a b : ℕ) → a < 2 ^ 32 → b < 2 ^ 32 → a * b < 2 ^ 64
product_fits a b h k = let p = mul-le-mul (le-pred_of_lt h) (le-pred_of_lt k) in omega arith

-- A number of words is never the word for Unknown
pub capped_known : (words : ℕ) → capped words ≡ unknown_word → ⊥
capped_known n e = omega arith
