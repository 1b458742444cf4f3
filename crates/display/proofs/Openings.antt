-- The openings of texts, by kind: what has to fit, what is written, and how long it is.
use Prim.Native.Nat.{ℕ, zero, suc, ◌+◌, ◌-◌, ◌≤◌, ◌<◌}
use native.Mathlib.Omega.{arith}
use mathlib.Core.Path.{◌≡◌, refl, sym, ap, ◌∙◌, subst}
use mathlib.Core.List.{List, [], ◌++◌}
use lib.ListN.{length, length-append}
use Rattle.types.specs.Ty.{kind_of, size_of, name_of, unknown_kind, array_kind}
use Rattle.types.specs.Ty.{struct_kind, function_kind, alias_kind, distinct_kind, field_kind, argument_kind}
use Rattle.types.specs.Table.{unfolded}
use Rattle.types.proofs.Laws.{row_ok}
use Rattle.types.proofs.Query.{kind_of_lem}
use Rattle.text.specs.Text.{ascii, decimal}
use Rattle.text.specs.Length.{capped}
use Rattle.text.specs.Written.{Fits, Written}
use Rattle.text.proofs.Writing.{first_fits, second_fits, both_written, fits_as, written_as}
use Rattle.text.proofs.Decimals.{decimal_at_most_ten}
use Rattle.display.specs.Display.{NameTexts}
use Rattle.display.specs.Names.{NameExists, Printable}
use Rattle.display.specs.Parts.{opening, opening_of}

-- Direct types and pointers have a fixed opening: the same as that of kind j, if they are of kind j
module _ (j k : ℕ) (e : k ≡ j) where
  same_opening : (name : List ℕ) (size : ℕ) → opening k name size ≡ opening j name size
  same_opening name size = ap (λ (i : ℕ). opening i name size) e

-- The opening of a type with a name: the name, and a fixed text behind it
module _ (k : ℕ) (name : List ℕ) (low : alias_kind ≤ k) (high : k ≤ field_kind) where
  alias_opening : k < distinct_kind → opening k name 0 ≡ name ++ ascii " (alias for "
  alias_opening h = same_opening alias_kind k (omega arith) name 0

  distinct_opening : distinct_kind ≤ k → k < field_kind → opening k name 0 ≡ name
  distinct_opening l h = same_opening distinct_kind k (omega arith) name 0

  field_opening : field_kind ≤ k → opening k name 0 ≡ name ++ ascii ": "
  field_opening l = same_opening field_kind k (omega arith) name 0

  pub name_fits : (text : List ℕ) (at : ℕ) → Fits (opening k name 0) text at → Fits name text at
  name_fits text at fits = go (k - alias_kind) (omega arith) (omega arith)
    where
      go : (i : ℕ) → i < 3 → k ≡ i + alias_kind → Fits name text at
      go zero b e = first_fits name _ text at (fits_as _ _ (alias_opening (omega arith)) text at fits)
      go (suc zero) b e = fits_as _ _ (distinct_opening (omega arith) (omega arith)) text at fits
      go (suc (suc zero)) b e = first_fits name _ text at (fits_as _ _ (field_opening (omega arith)) text at fits)
      go (suc (suc (suc i))) b e = absurd (omega arith)

  module _ (text text₁ : List ℕ) (at end : ℕ) (first : Written name text text₁ at end) where
    pub alias_fits : k < distinct_kind → Fits (opening k name 0) text at → Fits (ascii " (alias for ") text₁ end
    alias_fits h fits = second_fits name _ text at text₁ end first (fits_as _ _ (alias_opening h) text at fits)

    pub alias_written : k < distinct_kind → (text₂ : List ℕ) (r : ℕ) → Written (ascii " (alias for ") text₁ text₂ end r
        → Written (opening k name 0) text text₂ at r
    alias_written h text₂ r second = written_as _ _ (alias_opening h) text text₂ at r (both_written name _ text at text₁ end first text₂ r second)

    pub field_fits : field_kind ≤ k → Fits (opening k name 0) text at → Fits (ascii ": ") text₁ end
    field_fits l fits = second_fits name _ text at text₁ end first (fits_as _ _ (field_opening l) text at fits)

    pub field_written : field_kind ≤ k → (text₂ : List ℕ) (r : ℕ) → Written (ascii ": ") text₁ text₂ end r
        → Written (opening k name 0) text text₂ at r
    field_written l text₂ r second = written_as _ _ (field_opening l) text text₂ at r (both_written name _ text at text₁ end first text₂ r second)

  module _ (x : ℕ) (x-is : x ≡ capped (length name)) where
    pub alias_long : k < distinct_kind → (r : ℕ) → r ≡ capped (x + length (ascii " (alias for ")) → r ≡ capped (length (opening k name 0))
    alias_long h r r-is = let l = ap length (alias_opening h) ∙ length-append name (ascii " (alias for ") in omega arith

-- The opening of an array: its size between brackets
module _ (size : ℕ) (text : List ℕ) (at : ℕ) where
  module _ (text₁ : List ℕ) (start : ℕ) (first : Written (ascii "[") text text₁ at start) where
    module _ (text₂ : List ℕ) (end : ℕ) (second : Written (decimal size) text₁ text₂ start end) where
      both : Written (ascii "[" ++ decimal size) text text₂ at end
      both = both_written (ascii "[") (decimal size) text at text₁ start first text₂ end second

      pub size_written : (text₃ : List ℕ) (r : ℕ) → Written (ascii "]") text₂ text₃ end r → Written (opening array_kind [] size) text text₃ at r
      size_written text₃ r third = both_written (ascii "[" ++ decimal size) (ascii "]") text at text₂ end both text₃ r third

size_long : (size : ℕ) → length (opening array_kind [] size) ≡ 2 + length (decimal size)
size_long size = let l = length-append (ascii "[" ++ decimal size) (ascii "]") in let m = length-append (ascii "[") (decimal size) in omega arith

-- The opening of row n, by its kind
module _ (names : NameTexts) (s places w : List ℕ) (count n : ℕ) (printable : Printable s places w count) (low : 1 ≤ n) (high : n ≤ count)
    (k : ℕ) (k-is : k ≡ kind_of (unfolded w n)) where
  pub kind_low : unknown_kind ≤ k
  kind_low = let e = k-is ∙ kind_of_lem w count printable.table n low high in omega (arith, (row_ok w count printable.table n low high).kind_low)

  pub kind_high : k ≤ argument_kind
  kind_high = let e = k-is ∙ kind_of_lem w count printable.table n low high in omega (arith, (row_ok w count printable.table n low high).kind_high)

  by_kind : (j : ℕ) → k ≡ j → opening_of names (unfolded w n) ≡ opening j (names (name_of (unfolded w n))) (size_of (unfolded w n))
  by_kind j e = same_opening j (kind_of (unfolded w n)) (sym k-is ∙ e) (names (name_of (unfolded w n))) (size_of (unfolded w n))

  -- where it is the text o
  module _ (o : List ℕ) (o_is : opening_of names (unfolded w n) ≡ o) where
    fits_so : (text : List ℕ) (at : ℕ) → Fits (opening_of names (unfolded w n)) text at → Fits o text at
    fits_so text at fits = fits_as _ o o_is text at fits

    written_so : (text text' : List ℕ) (at r : ℕ) → Written o text text' at r → Written (opening_of names (unfolded w n)) text text' at r
    written_so text text' at r w' = written_as _ o o_is text text' at r w'

    long_so : (r : ℕ) → r ≡ capped (length o) → r ≡ capped (length (opening_of names (unfolded w n)))
    long_so r e = e ∙ ap (λ (t : List ℕ). capped (length t)) (sym o_is)

  module _ (l : array_kind ≤ k) (h : k < struct_kind) (size : ℕ) (size_is : size ≡ size_of (unfolded w n)) where
    array_is : opening_of names (unfolded w n) ≡ opening array_kind [] size
    array_is = by_kind array_kind (omega arith) ∙ ap (λ (i : ℕ). opening array_kind [] i) (sym size_is)

    pub row_size_long : (d : ℕ) → d ≡ length (decimal size) → 2 + d ≡ capped (length (opening_of names (unfolded w n)))
    row_size_long d d-is =
        let m = size_long size in
        let t = decimal_at_most_ten size in
        long_so _ array_is (2 + d) (omega arith)

  module _ (l : struct_kind ≤ k) (h : k < function_kind) where
    struct_is : opening_of names (unfolded w n) ≡ ascii "struct { "
    struct_is = by_kind struct_kind (omega arith)

  module _ (l : function_kind ≤ k) (h : k < alias_kind) where
    function_is : opening_of names (unfolded w n) ≡ ascii "fn("
    function_is = by_kind function_kind (omega arith)

  -- Of a kind with a name. Cited by nothing here now
  module _ (l : alias_kind ≤ k) (h : k ≤ field_kind) (name : ℕ) (name-is : name ≡ name_of (unfolded w n)) where
    pub row_name_exists : NameExists s name
    row_name_exists = subst (NameExists s) (sym name-is) (printable.exist.each n low high (omega arith) (omega arith))

    module _ (bytes : List ℕ) (bytes-are : bytes ≡ names name) where
      named_is : opening_of names (unfolded w n) ≡ opening k bytes 0
      named_is = go (k - alias_kind) (omega arith) (omega arith)
        where
          at_kind_lem : (j : ℕ) → k ≡ j → opening j (names (name_of (unfolded w n))) (size_of (unfolded w n)) ≡ opening j (names (name_of (unfolded w n))) 0
              → opening_of names (unfolded w n) ≡ opening k bytes 0
          at_kind_lem j e p =
              by_kind j e
              ∙ p
              ∙ ap (λ (x : List ℕ). opening j x 0) (sym (bytes-are ∙ ap names name-is))
              ∙ sym (same_opening j k e bytes 0)

          go : (i : ℕ) → i < 3 → k ≡ i + alias_kind → opening_of names (unfolded w n) ≡ opening k bytes 0
          go zero b e = at_kind_lem alias_kind e refl
          go (suc zero) b e = at_kind_lem distinct_kind e refl
          go (suc (suc zero)) b e = at_kind_lem field_kind e refl
          go (suc (suc (suc i))) b e = absurd (omega arith)

      pub row_named_fits : (text : List ℕ) (at : ℕ) → Fits (opening_of names (unfolded w n)) text at → Fits (opening k bytes 0) text at
      row_named_fits text at fits = fits_so _ named_is text at fits

      pub row_named_written : (text text' : List ℕ) (at r : ℕ) → Written (opening k bytes 0) text text' at r
          → Written (opening_of names (unfolded w n)) text text' at r
      row_named_written text text' at r w' = written_so _ named_is text text' at r w'

      pub row_named_long : (r : ℕ) → r ≡ capped (length (opening k bytes 0)) → r ≡ capped (length (opening_of names (unfolded w n)))
      row_named_long r e = long_so _ named_is r e
