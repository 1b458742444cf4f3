-- The loop that fills the working words: those of the first i rows hold their lengths.
use Prim.Native.Nat.{ℕ, ◌+◌, ◌<◌}
use mathlib.Core.Path.{◌≡◌, refl, ◌∙◌}
use mathlib.Core.List.{List}
use native.Mathlib.Omega.{arith}
use borrow.Author.Count.{below_more}
use lib.ListN.{length, get_or, set, length-set}
use lib.Seq.{get_or-set_same, get_or-set_other}
use Rattle.types.specs.Table.{unfolded}
use Rattle.display.specs.Display.{NameTexts}
use Rattle.display.specs.Length.{text_length, Filled}

pub fill_none : (names : NameTexts) (w : List ℕ) (i : ℕ) (work : List ℕ) → i ≡ 0 → Filled names w i work work
fill_none names w i work e = record { long = refl; each = λ j h. absurd (omega arith); past = λ j h. refl }

module _ (names : NameTexts) (w : List ℕ) (i : ℕ) (work₀ work : List ℕ) (filled : Filled names w i work₀ work) where
  pub fill_more : (x : ℕ) → x ≡ text_length names (unfolded w (i + 1)) → i < length work₀ → Filled names w (i + 1) work₀ (set work i x)
  fill_more x x-is below =
      record {
        long = length-set work i x ∙ filled.long;
        each =
            below_more
            (λ (j : ℕ). get_or (set work i x) j 0 ≡ text_length names (unfolded w (j + 1)))
            i
            (λ j h. at_other j (λ e. omega arith) ∙ filled.each j h)
            (at_same ∙ x-is);
        past = λ j h. at_other j (λ e. omega arith) ∙ filled.past j (omega arith);
      }
    where
      at_same : get_or (set work i x) i 0 ≡ x
      at_same = get_or-set_same work i x 0 (omega (arith, filled.long))

      at_other : (j : ℕ) → (j ≡ i → ⊥) → get_or (set work i x) j 0 ≡ get_or work j 0
      at_other j other = get_or-set_other work i j x 0 other
