-- Rows that obey the table's rules, one by one.
use Prim.Native.Nat.{ℕ, ◌+◌, ◌-◌, ◌≤◌, ◌<◌}
use mathlib.Core.Path.{◌≡◌, sym, ap, ◌∙◌, subst}
use mathlib.Core.List.{List}
use native.Mathlib.Omega.{arith}
use borrow.Author.Count.{below_none, below_more}
use Rattle.rows.proofs.Search.{last_or}
use Rattle.types.specs.WordSize.{size_word}
use Rattle.types.specs.Table.{Words, row_at, size_word_at, build, unfolded, Distinct, RowOk, Sizes, Table}
use Rattle.types.proofs.Laws.{first_at_most, unfolded_ok}

-- The rows 1 to m obey the rules
pub record Rows (w : List ℕ) (m : ℕ) : Type 0 where
  pub rows : (i : ℕ) → i < m → RowOk w i (row_at w (i + 1))
  pub distinct : Distinct w m
  pub sizes : Sizes w m

pub table_rows : {w : List ℕ} {count : ℕ} → Table w count → Rows w count
table_rows t = record { rows = t.rows; distinct = t.distinct; sizes = t.sizes }

pub rows_none : (w : List ℕ) → Rows w 0
rows_none w = record { rows = below_none _; distinct = λ i j l h. absurd (omega arith); sizes = λ n l h. absurd (omega arith) }

-- One more row that obeys them, like none of the rows 1 to m, with its size
module _ (w : List ℕ) (m : ℕ) (s : Rows w m) (ok : RowOk w m (row_at w (m + 1))) where
  distinct_more : ((i : ℕ) → 1 ≤ i → i ≤ m → row_at w i ≡ row_at w (m + 1) → ⊥) → Distinct w (m + 1)
  distinct_more new i j li hi lj hj e =
      last_or m i hi (i ≡ j)
      (λ bi. last_or m j hj (i ≡ j) (λ bj. s.distinct i j li bi lj bj e) (λ ej. absurd (new i li bi (e ∙ ap (row_at w) ej))))
      (λ ei. last_or m j hj (i ≡ j) (λ bj. absurd (new j lj bj (sym e ∙ ap (row_at w) ei))) (λ ej. ei ∙ sym ej))

  sizes_more : size_word_at w (m + 1) ≡ size_word (build (row_at w (m + 1)) (unfolded w)) → Sizes w (m + 1)
  sizes_more size n l h =
      last_or m n h (size_word_at w n ≡ size_word (unfolded w n))
      (s.sizes n l)
      (λ e. subst (λ (i : ℕ). size_word_at w i ≡ size_word (unfolded w i)) (sym e) (size ∙ ap size_word (sym (unfolded_ok w m ok))))

  pub rows_add : ((i : ℕ) → 1 ≤ i → i ≤ m → row_at w i ≡ row_at w (m + 1) → ⊥)
      → size_word_at w (m + 1) ≡ size_word (build (row_at w (m + 1)) (unfolded w)) → Rows w (m + 1)
  rows_add new size = record { rows = below_more _ m s.rows ok; distinct = distinct_more new; sizes = sizes_more size }

-- A row that points to the last of the rows 1 to m is like none of them
pub points_to_last : (w : List ℕ) (m : ℕ) → Rows w m → (r : Words) → r.first ≡ m → (i : ℕ) → 1 ≤ i → i ≤ m → row_at w i ≡ r → ⊥
points_to_last w m s r e i l h q =
    let same_number : i - 1 + 1 ≡ i = omega arith in
    let ok = subst (λ (n : ℕ). RowOk w (i - 1) (row_at w n)) same_number (s.rows (i - 1) (omega arith)) in
    let lower = first_at_most w (i - 1) (row_at w i) ok in
    let first-is = ap (λ (x : Words). x.first) q in
    omega arith
