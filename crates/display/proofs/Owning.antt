-- A row's own bytes, with those of its parts, are its text.
use Prim.Native.Nat.{ℕ, ◌+◌, ◌≤◌}
use native.Mathlib.Omega.{arith}
use mathlib.Core.Path.{◌≡◌, sym, ap, ◌∙◌}
use mathlib.Core.List.{List, ◌++◌}
use lib.Dec.{eqb}
use lib.ListN.{length, length-append}
use lib.Seq.{sets}
use Rattle.types.specs.Ty.{kind_of}
use Rattle.types.specs.Table.{unfolded}
use Rattle.text.specs.Length.{longest}
use Rattle.text.specs.Written.{Fits, Written}
use Rattle.text.proofs.Writing.{sets_append, sets_apart, written_length}
use Rattle.display.specs.Names.{name_text}
use Rattle.display.specs.Length.{row_text, text_length, length_at, Measured}
use Rattle.display.specs.Parts.{middle, first_in, second_in, opening_of, PartRow}
use Rattle.display.specs.Write.{Owned}
use Rattle.display.proofs.Whole.{row_whole, row_long}
use Rattle.display.proofs.Lengths.{held_length}

-- Four texts one after the other, the third written before the second and the fourth
four_written : (o x m y text : List ℕ) (at : ℕ)
    → sets (sets (sets (sets text at o) (at + length o + length x) m) (at + length o) x) (at + length o + length x + length m) y
    ≡ sets text at (o ++ x ++ m ++ y)
four_written o x m y text at =
    let e1 : at + length (o ++ x) ≡ at + length o + length x = let l = length-append o x in omega arith in
    let e2 : at + length (o ++ x ++ m) ≡ at + length o + length x + length m = let l = length-append (o ++ x) m in let k = length-append o x in omega arith in
    ap (λ (t : List ℕ). sets t (at + length o + length x + length m) y)
    (sym (sets_apart x m (sets text at o) (at + length o) (at + length o + length x) (omega arith))
    ∙ ap (λ (t : List ℕ). sets t (at + length o + length x) m) (sym (sets_append o x text at))
    ∙ ap (λ (i : ℕ). sets (sets text at (o ++ x)) i m) (sym e1)
    ∙ sym (sets_append (o ++ x) m text at))
    ∙ ap (λ (i : ℕ). sets (sets text at (o ++ x ++ m)) i y) (sym e2)
    ∙ sym (sets_append (o ++ x ++ m) y text at)

-- A text that fits has its exact length in the working words
pub exact_length : (s built_in places w : List ℕ) (count : ℕ) (work : List ℕ) → Measured s built_in places w count count work
    → (n : ℕ) → n ≤ count → length (row_text (name_text s built_in) w n) ≤ longest → length_at work n ≡ length (row_text (name_text s built_in) w n)
unfolding text_length
exact_length s built_in places w count work measured n high short =
    let h = held_length (name_text s built_in) w count work measured.held n high in omega arith

module _ (s built_in places w : List ℕ) (count n : ℕ) (work : List ℕ) (measured : Measured s built_in places w count count work) (low : 1 ≤ n) (high : n ≤ count)
    (text : List ℕ) (at : ℕ) (fits : Fits (row_text (name_text s built_in) w n) text at)
    (k : ℕ) (k-is : k ≡ kind_of (unfolded w n)) (first : ℕ) (first-row : PartRow w count n first (first_in (unfolded w n)))
    (second : ℕ) (second-row : PartRow w count n second (second_in (unfolded w n))) where
  opening_text : List ℕ
  opening_text = opening_of (name_text s built_in) (unfolded w n)

  first_text : List ℕ
  first_text = row_text (name_text s built_in) w first

  middle_text : List ℕ
  middle_text = middle k (eqb second 0)

  second_text : List ℕ
  second_text = row_text (name_text s built_in) w second

  whole_is : row_text (name_text s built_in) w n ≡ opening_text ++ first_text ++ middle_text ++ second_text
  unfolding opening_text first_text middle_text second_text
  whole_is = row_whole (name_text s built_in) w count n measured.printable.table low high k k-is first first-row second second-row

  whole_long : length (row_text (name_text s built_in) w n) ≡ length opening_text + length first_text + length middle_text + length second_text
  unfolding opening_text first_text middle_text second_text
  whole_long = row_long (name_text s built_in) w count n measured.printable.table low high k k-is first first-row second second-row

  pub opening_fits : Fits (opening_of (name_text s built_in) (unfolded w n)) text at
  unfolding opening_text
  opening_fits = let l = whole_long in record { short = omega (arith, fits.short); room = omega (arith, fits.room) }

  module _ (text₁ : List ℕ) (front : ℕ) (opened : Written (opening_of (name_text s built_in) (unfolded w n)) text text₁ at front) where
    same_long : length text₁ ≡ length text
    same_long = written_length _ text text₁ at front opened

    front_place : front ≡ at + length opening_text
    unfolding opening_text
    front_place = opened.next

    module _ (x : ℕ) (x-is : x ≡ length_at work first) where
      first_long : x ≡ length first_text
      unfolding first_text
      first_long =
          let l = whole_long in
          x-is ∙ exact_length s built_in places w count work measured first first-row.row (omega (arith, fits.short))

      pub end_inside : front + x ≤ length text
      end_inside = let l = whole_long in let p = front_place in let f = first_long in omega (arith, fits.room)

      pub middle_fits : Fits (middle k (eqb second 0)) text₁ (front + x)
      unfolding middle_text
      middle_fits =
          let l = whole_long in
          let p = front_place in
          let f = first_long in
          let z = same_long in
          record { short = omega (arith, fits.short); room = omega (arith, fits.room) }

      module _ (text₂ : List ℕ) (back : ℕ) (closed : Written (middle k (eqb second 0)) text₁ text₂ (front + x) back) where
        back_place : back ≡ at + length opening_text + length first_text + length middle_text
        unfolding middle_text
        back_place = let p = front_place in let f = first_long in omega (arith, closed.next)

        text₂_is : text₂ ≡ sets (sets text at opening_text) (at + length opening_text + length first_text) middle_text
        unfolding opening_text middle_text
        text₂_is =
            let e : front + x ≡ at + length opening_text + length first_text = let p = front_place in let f = first_long in omega arith in
            closed.stored ∙ (λ i. sets (opened.stored i) (e i) middle_text)

        long₂ : length text₂ ≡ length text
        long₂ = written_length _ text₁ text₂ (front + x) back closed ∙ same_long

        both : sets (sets text₂ front first_text) back second_text ≡ sets text at (row_text (name_text s built_in) w n)
        both =
            (λ i. sets (sets (text₂_is i) (front_place i) first_text) (back_place i) second_text)
            ∙ four_written opening_text first_text middle_text second_text text at
            ∙ ap (sets text at) (sym whole_is)

        pub owned : Owned (name_text s built_in) w n text text₂ at (record { first = first; front = front; second = second; back = back })
        unfolding first_text second_text
        owned =
            let l = whole_long in
            let p = front_place in
            let q = back_place in
            let z = long₂ in
            record {
              lower = (first-row.lower, second-row.lower);
              first = record { short = omega (arith, fits.short); room = omega (arith, fits.room) };
              second = record { short = omega (arith, fits.short); room = omega (arith, fits.room) };
              long = z;
              whole = both;
              swapped = sym (sets_apart first_text second_text text₂ front back (omega arith)) ∙ both;
            }
