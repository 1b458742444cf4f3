-- The rows of the parts in a row's text, by its kind.
use Prim.Native.Nat.{ℕ, ◌≤◌, ◌<◌}
use native.Mathlib.Omega.{arith}
use mathlib.Core.Path.{◌≡◌, sym, ◌∙◌}
use mathlib.Core.Bool.{Bool, true, false, cond}
use mathlib.Core.List.{List}
use borrow.Author.Tests.{eq-eqb, ne_eqb, lt-ltb, le-ltb}
use lib.Dec.{eqb, ltb}
use Rattle.types.specs.Ty.{Ty, end, kind_of, first_of, second_of, pointer_kind, struct_kind, function_kind, distinct_kind, field_kind}
use Rattle.types.specs.Ty.{unknown_kind}
use Rattle.types.specs.Table.{Table, unfolded}
use Rattle.types.specs.Post.{TypePart, CellPart}
use Rattle.types.proofs.Laws.{unfolded_zero, row_ok}
use Rattle.types.proofs.Query.{kind_of_lem}
use Rattle.display.specs.Parts.{first_in, second_in, PartRow}

-- No part
none : (w : List ℕ) (count n : ℕ) (t : Ty) → 1 ≤ n → t ≡ end → PartRow w count n 0 t
none w count n t low e = record { lower = omega arith; row = omega arith; type = unfolded_zero w ∙ sym e }

module _ (w : List ℕ) (count n : ℕ) (table : Table w count) (low : 1 ≤ n) (high : n ≤ count) (k : ℕ) (k-is : k ≡ kind_of (unfolded w n)) where
  -- The kinds begin with 1
  pub first_kind : unknown_kind ≤ k
  first_kind = let e = k-is ∙ kind_of_lem w count table n low high in omega (arith, (row_ok w count table n low high).kind_low)

  no_kind : (j : ℕ) → (k ≡ j → ⊥) → eqb (kind_of (unfolded w n)) j ≡ false
  no_kind j f = ne_eqb (kind_of (unfolded w n)) j (λ e. f (k-is ∙ e))

  is_kind : (j : ℕ) → k ≡ j → eqb (kind_of (unfolded w n)) j ≡ true
  is_kind j e = eq-eqb (kind_of (unfolded w n)) j (sym k-is ∙ e)

  below : (j : ℕ) → k < j → ltb (kind_of (unfolded w n)) j ≡ true
  below j h = lt-ltb (kind_of (unfolded w n)) j (omega arith)

  above : (j : ℕ) → j ≤ k → ltb (kind_of (unfolded w n)) j ≡ false
  above j h = le-ltb (kind_of (unfolded w n)) j (omega arith)

  -- by the tests of the kind
  first_at : (a b c : Bool) → ltb (kind_of (unfolded w n)) pointer_kind ≡ a → eqb (kind_of (unfolded w n)) function_kind ≡ b → eqb (kind_of (unfolded w n)) distinct_kind ≡ c
      → first_in (unfolded w n) ≡ cond a end (cond b (second_of (unfolded w n)) (cond c end (first_of (unfolded w n))))
  first_at a b c p q r = λ i. cond (p i) end (cond (q i) (second_of (unfolded w n)) (cond (r i) end (first_of (unfolded w n))))

  second_at : (a b : Bool) → eqb (kind_of (unfolded w n)) function_kind ≡ a → ltb (kind_of (unfolded w n)) field_kind ≡ b
      → second_in (unfolded w n) ≡ cond a (first_of (unfolded w n)) (cond b end (second_of (unfolded w n)))
  second_at a b p q = λ i. cond (p i) (first_of (unfolded w n)) (cond (q i) end (second_of (unfolded w n)))

  typed : (p : ℕ) (t u : Ty) → TypePart w count n t p → u ≡ t → PartRow w count n p u
  typed p t u part e = record { lower = part.lower; row = part.is.high; type = part.type ∙ sym e }

  celled : (p j : ℕ) (t u : Ty) → CellPart w count n j t p → u ≡ t → PartRow w count n p u
  celled p j t u part e = record { lower = part.lower; row = part.is.high; type = part.type ∙ sym e }

  pub first_low : k < pointer_kind → PartRow w count n 0 (first_in (unfolded w n))
  first_low h =
      none w count n _ low
      (first_at true false false (below pointer_kind h) (no_kind function_kind (λ e. omega arith)) (no_kind distinct_kind (λ e. omega arith)))

  module _ (l : pointer_kind ≤ k) where
    pub first_distinct : k ≡ distinct_kind → PartRow w count n 0 (first_in (unfolded w n))
    first_distinct h =
        none w count n _ low
        (first_at false false true (above pointer_kind l) (no_kind function_kind (λ e. omega arith)) (is_kind distinct_kind h))

    pub first_fields : k ≡ struct_kind → (p : ℕ) → CellPart w count n field_kind (first_of (unfolded w n)) p → PartRow w count n p (first_in (unfolded w n))
    first_fields h p part =
        celled p _ _ _ part
        (first_at false false false (above pointer_kind l) (no_kind function_kind (λ e. omega arith)) (no_kind distinct_kind (λ e. omega arith)))

    pub first_type_lem : (k ≡ function_kind → ⊥) → (k ≡ distinct_kind → ⊥) → (p : ℕ) → TypePart w count n (first_of (unfolded w n)) p
        → PartRow w count n p (first_in (unfolded w n))
    first_type_lem f d p part =
        typed p _ _ part (first_at false false false (above pointer_kind l) (no_kind function_kind f) (no_kind distinct_kind d))

  pub second_low : (k ≡ function_kind → ⊥) → k < field_kind → PartRow w count n 0 (second_in (unfolded w n))
  second_low f h = none w count n _ low (second_at false true (no_kind function_kind f) (below field_kind h))

  pub second_rest : field_kind ≤ k → (p : ℕ) → CellPart w count n (kind_of (unfolded w n)) (second_of (unfolded w n)) p
      → PartRow w count n p (second_in (unfolded w n))
  second_rest h p part = celled p _ _ _ part (second_at false false (no_kind function_kind (λ e. omega arith)) (above field_kind h))
