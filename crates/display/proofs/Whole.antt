-- The text of a row is its opening, its first part, its middle and its second part.
use Prim.Native.Nat.{ℕ, zero, suc, ◌+◌, ◌≤◌}
use native.Mathlib.Omega.{arith}
use native.Mathlib.Decide.{dec_le}
use mathlib.Core.Path.{◌≡◌, refl, sym, ap, ◌∙◌}
use mathlib.Core.Bool.{false, cond}
use mathlib.Core.List.{List, [], ◌++◌, append_assoc, append-nil}
use borrow.Author.Tests.{eq-eqb, ne_eqb}
use lib.Dec.{eqb}
use lib.ListN.{length, length-append}
use Rattle.types.specs.Ty.{Ty, end, node, kind_of, argument_kind}
use Rattle.types.specs.Table.{Table, unfolded}
use Rattle.types.proofs.Laws.{unfolded_zero, row_ok}
use Rattle.types.proofs.Query.{kind_of_lem}
use Rattle.text.specs.Text.{ascii, decimal}
use Rattle.display.specs.Display.{NameTexts, is_end, joined, type_text}
use Rattle.display.specs.Length.{row_text}
use Rattle.display.specs.Parts.{middle, first_in, second_in, opening_of, PartRow}

-- The text of a type around its parts
abbrev around : NameTexts → Ty → List ℕ
around names t = opening_of names t ++ type_text names (first_in t) ++ middle (kind_of t) (is_end (second_in t)) ++ type_text names (second_in t)

nil_twice : (x : List ℕ) → x ≡ x ++ [] ++ []
nil_twice x = sym (ap (λ (y : List ℕ). y ++ []) (append-nil x) ∙ append-nil x)

nil_thrice : (x : List ℕ) → x ≡ x ++ [] ++ [] ++ []
nil_thrice x = nil_twice x ∙ sym (append-nil (x ++ [] ++ []))

cell_text : (names : NameTexts) (x : List ℕ) (b : Ty) → x ++ joined (is_end b) (type_text names b) ≡ x ++ cond (is_end b) [] (ascii ", ") ++ type_text names b
unfolding type_text
cell_text names x end = sym (append-nil (x ++ []))
cell_text names x (node k a b s n) = sym (append_assoc x (ascii ", ") (type_text names (node k a b s n)))

pub parts_text : (names : NameTexts) (t : Ty) → 1 ≤ kind_of t → kind_of t ≤ argument_kind → type_text names t ≡ around names t
unfolding type_text
parts_text names end low high = absurd (omega arith)
parts_text names (node zero a b s n) low high = absurd (omega arith)
parts_text names (node (suc zero) a b s n) low high = refl
parts_text names (node (suc (suc zero)) a b s n) low high = refl
parts_text names (node (suc (suc (suc zero))) a b s n) low high = refl
parts_text names (node (suc (suc (suc (suc zero)))) a b s n) low high = refl
parts_text names (node (suc (suc (suc (suc (suc zero))))) a b s n) low high = refl
parts_text names (node (suc (suc (suc (suc (suc (suc zero)))))) a b s n) low high = nil_twice (ascii "*" ++ type_text names a)
parts_text names (node (suc (suc (suc (suc (suc (suc (suc zero))))))) a b s n) low high = nil_twice (ascii "[" ++ decimal s ++ ascii "]" ++ type_text names a)
parts_text names (node (suc (suc (suc (suc (suc (suc (suc (suc zero)))))))) a b s n) low high = sym (append-nil (ascii "struct { " ++ type_text names a ++ ascii " }"))
parts_text names (node (suc (suc (suc (suc (suc (suc (suc (suc (suc zero))))))))) a b s n) low high = refl
parts_text names (node (suc (suc (suc (suc (suc (suc (suc (suc (suc (suc zero)))))))))) a b s n) low high = sym (append-nil (names n ++ ascii " (alias for " ++ type_text names a ++ ascii ")"))
parts_text names (node (suc (suc (suc (suc (suc (suc (suc (suc (suc (suc (suc zero))))))))))) a b s n) low high = nil_thrice (names n)
parts_text names (node (suc (suc (suc (suc (suc (suc (suc (suc (suc (suc (suc (suc zero)))))))))))) a b s n) low high = cell_text names (names n ++ ascii ": " ++ type_text names a) b
parts_text names (node (suc (suc (suc (suc (suc (suc (suc (suc (suc (suc (suc (suc (suc zero))))))))))))) a b s n) low high = cell_text names (type_text names a) b
parts_text names (node (suc (suc (suc (suc (suc (suc (suc (suc (suc (suc (suc (suc (suc (suc k)))))))))))))) a b s n) low high = absurd (omega arith)

-- A part has no text exactly if its row is 0
last_is : (w : List ℕ) (count n r : ℕ) (t : Ty) → Table w count → PartRow w count n r t → eqb r 0 ≡ is_end t
last_is w count n r t table part = elim (dec_le r 0) [ yes h ↦ none (omega arith) | no h ↦ some (omega arith) ]
  where
    none : r ≡ 0 → eqb r 0 ≡ is_end t
    none e = eq-eqb r 0 e ∙ ap is_end (sym (unfolded_zero w) ∙ sym (ap (unfolded w) e) ∙ part.type)

    node_is : (u : Ty) {x : ℕ} → kind_of u ≡ x → 1 ≤ x → false ≡ is_end u
    node_is end e h = absurd (omega arith)
    node_is (node j a b s m) e h = refl

    some : 1 ≤ r → eqb r 0 ≡ is_end t
    some h =
        ne_eqb r 0 (λ e. omega arith)
        ∙ node_is t (ap kind_of (sym part.type) ∙ kind_of_lem w count table r h part.row) (row_ok w count table r h part.row).kind_low

-- The text of row n, and its length, by the rows of its parts
module _ (names : NameTexts) (w : List ℕ) (count n : ℕ) (table : Table w count) (low : 1 ≤ n) (high : n ≤ count)
    (k : ℕ) (k-is : k ≡ kind_of (unfolded w n)) (first : ℕ) (first-row : PartRow w count n first (first_in (unfolded w n)))
    (second : ℕ) (second-row : PartRow w count n second (second_in (unfolded w n))) where
  middle_is : middle k (eqb second 0) ≡ middle (kind_of (unfolded w n)) (is_end (second_in (unfolded w n)))
  middle_is = λ i. middle (k-is i) (last_is w count n second (second_in (unfolded w n)) table (second-row) i)

  pub row_whole : row_text names w n
      ≡ opening_of names (unfolded w n) ++ row_text names w first ++ middle k (eqb second 0) ++ row_text names w second
  row_whole =
      let r = row_ok w count table n low high in
      let e = kind_of_lem w count table n low high in
      parts_text names (unfolded w n) (omega (arith, r.kind_low)) (omega (arith, r.kind_high))
      ∙ (λ i. opening_of names (unfolded w n)
      ++ type_text names (sym first-row.type i)
      ++ sym middle_is i
      ++ type_text names (sym second-row.type i))

  pub row_long : length (row_text names w n)
      ≡ length (opening_of names (unfolded w n)) + length (row_text names w first) + length (middle k (eqb second 0))
      + length (row_text names w second)
  row_long =
      let e = ap length row_whole in
      let a = length-append (opening_of names (unfolded w n) ++ row_text names w first ++ middle k (eqb second 0)) (row_text names w second) in
      let b = length-append (opening_of names (unfolded w n) ++ row_text names w first) (middle k (eqb second 0)) in
      let c = length-append (opening_of names (unfolded w n)) (row_text names w first) in
      omega arith
