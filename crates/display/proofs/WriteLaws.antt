-- Writing a type: whatever is left to write, once it is written the text is whole.
use Prim.Native.Nat.{ℕ, ◌+◌, ◌≤◌}
use native.Mathlib.Omega.{arith}
use mathlib.Core.Path.{◌≡◌, refl, sym, ap, ◌∙◌}
use mathlib.Core.List.{List}
use lib.ListN.{length}
use lib.Seq.{sets}
use Rattle.types.proofs.Laws.{unfolded_zero}
use Rattle.text.specs.Written.{Fits, Written}
use Rattle.text.proofs.Writing.{written_length}
use Rattle.display.specs.Display.{NameTexts, type_text}
use Rattle.display.specs.Names.{name_text}
use Rattle.display.specs.Length.{row_text, length_at, Measured}
use Rattle.display.specs.Write.{Owned}
use Rattle.display.specs.declared.Inner.{Inner}
use Rattle.display.proofs.Owning.{exact_length}

-- What is left to write is the text of `row` at `at`
pub record Left (names : NameTexts) (w : List ℕ) (n : ℕ) (text₀ : List ℕ) (from : ℕ) (text : List ℕ) (row at : ℕ) : Type 0 where
  pub low : row ≤ n
  pub fits : Fits (row_text names w row) text at
  pub long : length text ≡ length text₀
  pub whole : sets text at (row_text names w row) ≡ sets text₀ from (row_text names w n)

-- a text of the same length has as much room
fits_later : (t text text' : List ℕ) (at : ℕ) → Fits t text at → length text' ≡ length text → Fits t text' at
fits_later t text text' at fits e = record { short = fits.short; room = omega (arith, fits.room, e) }

module _ (names : NameTexts) (w : List ℕ) (n : ℕ) (text₀ : List ℕ) (from : ℕ) where
  pub write_start : Fits (row_text names w n) text₀ from → Left names w n text₀ from text₀ n from
  write_start fits = record { low = omega arith; fits = fits; long = refl; whole = refl }

  module _ (text : List ℕ) (row at : ℕ) (left : Left names w n text₀ from text row at) where
    all_written : row ≡ 0 → text ≡ sets text₀ from (row_text names w n)
    unfolding type_text
    all_written e =
        sym
        (ap (λ (i : ℕ). sets text at (row_text names w i)) e
        ∙ ap (λ (t : List ℕ). sets text at t) (ap (type_text names) (unfolded_zero w)))
        ∙ left.whole

    module _ (text' : List ℕ) (inner : Inner) (owned : Owned names w row text text' at inner) (text'' : List ℕ) (r : ℕ) where
      pub second_left : Written (row_text names w inner.first) text' text'' inner.front r
          → Left names w n text₀ from text'' inner.second inner.back
      second_left e =
          let l = written_length _ text' text'' inner.front r e in
          record {
            low = omega (arith, owned.lower.1, left.low);
            fits = fits_later _ text' text'' inner.back owned.second l;
            long = l ∙ owned.long ∙ left.long;
            whole =
                ap (λ (t : List ℕ). sets t inner.back (row_text names w inner.second)) e.stored ∙ owned.whole ∙ left.whole;
          }

      pub first_left : Written (row_text names w inner.second) text' text'' inner.back r
          → Left names w n text₀ from text'' inner.first inner.front
      first_left e =
          let l = written_length _ text' text'' inner.back r e in
          record {
            low = omega (arith, owned.lower.0, left.low);
            fits = fits_later _ text' text'' inner.front owned.first l;
            long = l ∙ owned.long ∙ left.long;
            whole =
                ap (λ (t : List ℕ). sets t inner.front (row_text names w inner.first)) e.stored ∙ owned.swapped ∙ left.whole;
          }

-- Where nothing is left, the text of row n is written, and its length in the working words leads to the place behind it
module _ (s built_in places w : List ℕ) (count : ℕ) (work : List ℕ) (measured : Measured s built_in places w count count work) (n : ℕ) (high : n ≤ count)
    (text₀ : List ℕ) (from : ℕ) (fits : Fits (row_text (name_text s built_in) w n) text₀ from) (x : ℕ) (x-is : x ≡ length_at work n) where
  long_is : x ≡ length (row_text (name_text s built_in) w n)
  long_is = x-is ∙ exact_length s built_in places w count work measured n high fits.short

  -- Cited by nothing here now
  pub write_inside : from + x ≤ length text₀
  write_inside = let l = long_is in omega (arith, fits.room)

  pub write_ends : (text : List ℕ) (row at : ℕ) → Left (name_text s built_in) w n text₀ from text row at → row ≡ 0
      → Written (row_text (name_text s built_in) w n) text₀ text from (from + x)
  write_ends text row at left e =
      record {
        stored = all_written (name_text s built_in) w n text₀ from text row at left e;
        next = ap (λ (i : ℕ). from + i) long_is;
      }
