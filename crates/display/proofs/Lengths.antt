-- The length of a row's text from the lengths of its parts. Parts may be shared: each row is measured once.
use Prim.Native.Nat.{ℕ, zero, suc, ◌+◌, ◌-◌, ◌≤◌}
use native.Mathlib.Omega.{arith}
use native.Mathlib.Numerals.{add-one}
use mathlib.Core.Path.{◌≡◌, sym, ap, ◌∙◌}
use mathlib.Core.List.{List}
use lib.ListN.{length}
use lib.Dec.{eqb}
use Rattle.types.specs.Ty.{kind_of}
use Rattle.types.specs.Table.{unfolded}
use Rattle.types.proofs.Laws.{unfolded_zero}
use Rattle.text.specs.Length.{capped}
use Rattle.display.specs.Display.{NameTexts, type_text}
use Rattle.display.specs.Names.{name_text}
use Rattle.display.specs.Length.{text_length, HaveLengths, length_at, Measured}
use Rattle.display.specs.Parts.{middle, first_in, second_in, opening_of, PartRow}
use Rattle.display.proofs.Whole.{row_long}

-- The length of row n in the working words
pub held_length : (names : NameTexts) (w : List ℕ) (m : ℕ) (work : List ℕ) → HaveLengths names w m work → (n : ℕ) → n ≤ m
    → length_at work n ≡ text_length names (unfolded w n)
unfolding text_length type_text
held_length names w m work held zero low = sym (ap (text_length names) (unfolded_zero w))
held_length names w m work held (suc n) low = held n (omega arith) ∙ ap (λ (i : ℕ). text_length names (unfolded w i)) (add-one n)

-- Row n's, from those of the rows before it
pub row_measured : (s built_in places w : List ℕ) (count n : ℕ) (work : List ℕ) → Measured s built_in places w count (n - 1) work → 1 ≤ n → n ≤ count
    → (k : ℕ) → k ≡ kind_of (unfolded w n)
    → (first : ℕ) → PartRow w count n first (first_in (unfolded w n))
    → (second : ℕ) → PartRow w count n second (second_in (unfolded w n))
    → (o : ℕ) → o ≡ capped (length (opening_of (name_text s built_in) (unfolded w n)))
    → (x : ℕ) → x ≡ length_at work first
    → (m : ℕ) → m ≡ length (middle k (eqb second 0))
    → (y : ℕ) → y ≡ length_at work second
    → (r : ℕ) → r ≡ capped (o + x + m + y) → r ≡ text_length (name_text s built_in) (unfolded w n)
unfolding text_length
row_measured s built_in places w count n work measured low high k k-is first first-row second second-row o o_is x x-is m m-is y y-is r r-is =
    let l = row_long (name_text s built_in) w count n measured.printable.table low high k k-is first first-row second second-row in
    let f = held_length (name_text s built_in) w (n - 1) work measured.held first (omega (arith, first-row.lower)) in
    let g = held_length (name_text s built_in) w (n - 1) work measured.held second (omega (arith, second-row.lower)) in
    omega arith
