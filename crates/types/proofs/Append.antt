-- A row stored behind the rows of a table.
use Prim.Native.Nat.{ℕ, ◌+◌, ◌-◌, ◌*◌, ◌^◌, ◌≤◌, ◌<◌}
use mathlib.Core.Path.{◌≡◌, refl, sym, ap, ◌∙◌, subst}
use mathlib.Core.List.{List}
use mathlib.Core.Bool.{Bool, true, false, cond}
use mathlib.Core.Logic.{◌⊎◌, inl, inr, ⊎_elim}
use native.Mathlib.Omega.{arith}
use borrow.Author.Tests.{eqb-false}
use lib.Dec.{eqb, ltb}
use lib.ListN.{length, get_or, set, length-set}
use lib.Seq.{get_or-set_same, get_or-set_other}
use Rattle.row_index.specs.Index.{with_row, with_rows}
use Rattle.row_index.proofs.Additions.{rows_none, rows_more}
use Rattle.types.specs.WordSize.{size_word}
use Rattle.types.specs.Table.{row_width, Words, words, row_at, size_word_at, build, unfolded, has_type, Table, RowOk, Extends}
use Rattle.rows.specs.Search.{NoRow}
use Rattle.types.specs.Post.{Added, highest_part, stored}
use Rattle.types.proofs.Laws.{unfolded_row, build_below, words_injective, first_at_most, second_at_most}
use Rattle.types.proofs.Grow.{Kept, kept_row, kept_unfolded, kept_ok, kept_rows}
use Rattle.types.proofs.Rows.{Rows, rows_add, table_rows}
use Rattle.types.proofs.Set.{has_none, added_last}

-- A row that is none of a table's rows is none of its types
pub new_type : (w : List ℕ) (c : ℕ) (r : Words) → Table w c → RowOk w c r → ((i : ℕ) → 1 ≤ i → i ≤ c → row_at w i ≡ r → ⊥) → has_type w c (build r (unfolded w)) ≡ false
new_type w c r t ok none = has_none w c (build r (unfolded w)) (λ n l h e. none n l h (words_injective w c t n l h r ok e))

module _ (w : List ℕ) (c : ℕ) (r : Words) (size : ℕ) where
  abbrev more : List ℕ
  more = stored w c r size

  stored_other : (i : ℕ) → (i < row_width * c) ⊎ (row_width * c + row_width ≤ i) → get_or more i 0 ≡ get_or w i 0
  stored_other i h =
      let n0 : i ≡ row_width * c → ⊥ = λ e. apart 0 (omega arith) (omega arith) in
      let n1 = apart 1 (omega arith) in
      let n2 = apart 2 (omega arith) in
      let n3 = apart 3 (omega arith) in
      let n4 = apart 4 (omega arith) in
      simp (get_or-set_other, n0, n1, n2, n3, n4)
    where
      apart : (k : ℕ) → k < row_width → i ≡ row_width * c + k → ⊥
      apart k l e = ⊎_elim (λ (b : i < row_width * c). omega arith) (λ (b : row_width * c + row_width ≤ i). omega arith) h

  module _ (room : row_width * c + row_width ≤ length w) where
    pub stored_row : row_at more (c + 1) ≡ r
    stored_row =
        let e : row_width * (c + 1) - row_width ≡ row_width * c = omega arith in
        let at : ℕ → ℕ → ℕ = λ b k. get_or more (b + k) 0 in
        ap (λ (b : ℕ). words (get_or more b 0) (at b 1) (at b 2) (at b 3)) e ∙ (λ i. record { kind = kind i; first = first i; second = second i; name = name i })
      where
        kind : get_or more (row_width * c) 0 ≡ r.kind
        kind =
            let n1 : row_width * c ≡ row_width * c + 1 → ⊥ = omega arith in
            let n2 : row_width * c ≡ row_width * c + 2 → ⊥ = omega arith in
            let n3 : row_width * c ≡ row_width * c + 3 → ⊥ = omega arith in
            let n4 : row_width * c ≡ row_width * c + 4 → ⊥ = omega arith in
            let l : row_width * c < length w = omega arith in
            simp (get_or-set_other, get_or-set_same, n1, n2, n3, n4, l)

        first : get_or more (row_width * c + 1) 0 ≡ r.first
        first =
            let n2 : row_width * c + 1 ≡ row_width * c + 2 → ⊥ = omega arith in
            let n3 : row_width * c + 1 ≡ row_width * c + 3 → ⊥ = omega arith in
            let n4 : row_width * c + 1 ≡ row_width * c + 4 → ⊥ = omega arith in
            let l : row_width * c + 1 < length (set w (row_width * c) r.kind) = simp length-set (omega arith) in
            simp (get_or-set_other, get_or-set_same, n2, n3, n4, l)

        second : get_or more (row_width * c + 2) 0 ≡ r.second
        second =
            let n3 : row_width * c + 2 ≡ row_width * c + 3 → ⊥ = omega arith in
            let n4 : row_width * c + 2 ≡ row_width * c + 4 → ⊥ = omega arith in
            let l : row_width * c + 2 < length (set (set w (row_width * c) r.kind) (row_width * c + 1) r.first) = simp length-set (omega arith) in
            simp (get_or-set_other, get_or-set_same, n3, n4, l)

        name : get_or more (row_width * c + 3) 0 ≡ r.name
        name =
            let n4 : row_width * c + 3 ≡ row_width * c + 4 → ⊥ = omega arith in
            let l : row_width * c + 3 < length (set (set (set w (row_width * c) r.kind) (row_width * c + 1) r.first) (row_width * c + 2) r.second) = simp length-set (omega arith) in
            simp (get_or-set_other, get_or-set_same, n4, l)

    stored_size : size_word_at more (c + 1) ≡ size
    stored_size =
        let e : row_width * (c + 1) - row_width + 4 ≡ row_width * c + 4 = omega arith in
        let l : row_width * c + 4 < length (set (set (set (set w (row_width * c) r.kind) (row_width * c + 1) r.first) (row_width * c + 2) r.second) (row_width * c + 3) r.name) = simp length-set (omega arith) in
        ap (λ (i : ℕ). get_or more i 0) e ∙ simp (get_or-set_same, l)

    kept : Kept w more c
    kept i h = stored_other i (inl h)

    -- It comes into the index as the row past the others
    pub stored_linked : {w' : List ℕ} → w' ≡ more → (b : List ℕ) {b' : List ℕ} → b' ≡ with_row b (c + 1) r → b' ≡ with_rows b w' c (c + 1)
    stored_linked {w'} e b q =
        let row = ap (λ (x : List ℕ). row_at x (c + 1)) e ∙ stored_row in
        q
        ∙ sym
        (rows_more b w' c c (omega arith)
        ∙ ap (λ (x : List ℕ). with_row x (c + 1) (row_at w' (c + 1))) (rows_none b w' c)
        ∙ ap (with_row b (c + 1)) row)

    module _ (t : Table w c) (ok : RowOk w c r) where
      extends : Extends w c more (c + 1)
      extends = record { more = omega arith; long = simp length-set; kept = kept; past = λ i h. stored_other i (inr (omega arith)) }

      built : build (row_at more (c + 1)) (unfolded more) ≡ build r (unfolded w)
      built = ap (λ (x : Words). build x (unfolded more)) stored_row ∙ build_below w c r ok (unfolded more) (unfolded w) (kept_unfolded w more c kept)

      module _ (size_is : size ≡ size_word (build r (unfolded w))) (none : (i : ℕ) → 1 ≤ i → i ≤ c → row_at w i ≡ r → ⊥) where
        all : Rows more (c + 1)
        all =
            rows_add more c
            (kept_rows w more c kept c (omega arith) (table_rows t))
            (subst (RowOk more c) (sym stored_row) (kept_ok w more c kept c (omega arith) r ok))
            (λ i l h e. none i l h (sym (kept_row w more c kept i l h) ∙ e ∙ stored_row))
            (stored_size ∙ size_is ∙ ap size_word (sym built))

        module _ (small : c + 1 < 2 ^ 32) where
          table : Table more (c + 1)
          table =
              let s = t.seven in
              record {
                room = simp length-set (omega arith);
                small = small;
                seven = omega arith;
                fixed = λ i h. kept i (omega arith) ∙ t.fixed i h;
                rows = all.rows;
                distinct = all.distinct;
                sizes = all.sizes;
              }

          pub added_stored : Added w c (build r (unfolded w)) more (c + 1) (c + 1)
          added_stored =
              added_last w more c (build r (unfolded w)) table extends
              (unfolded_row more (c + 1) table (c + 1) (omega arith) (omega arith) ∙ built)
              (new_type w c r t ok none)

-- A row stands behind its parts
highest : (r : Words) → (highest_part r ≡ r.first) ⊎ ((highest_part r ≡ r.second) × (r.kind ≡ 7 → ⊥))
highest r = go (eqb r.kind 7) refl (ltb r.first r.second)
  where
    go : (a : Bool) → eqb r.kind 7 ≡ a → (b : Bool)
        → (cond a r.first (cond b r.second r.first) ≡ r.first) ⊎ ((cond a r.first (cond b r.second r.first) ≡ r.second) × (r.kind ≡ 7 → ⊥))
    go true e b = inl refl
    go false e true = inr (refl, eqb-false r.kind 7 e)
    go false e false = inl refl

pub highest_low : (w : List ℕ) (c : ℕ) (r : Words) → RowOk w c r → highest_part r ≤ c
highest_low w c r ok =
    ⊎_elim
    (λ (e : highest_part r ≡ r.first). subst (λ (x : ℕ). x ≤ c) (sym e) (first_at_most w c r ok))
    (λ (e : (highest_part r ≡ r.second) × (r.kind ≡ 7 → ⊥)). subst (λ (x : ℕ). x ≤ c) (sym e.0) (second_at_most w c r ok e.1))
    (highest r)

-- So a search past them finds every row of these words
pub none_like : (w : List ℕ) (c : ℕ) → ((i : ℕ) → i < c → RowOk w i (row_at w (i + 1))) → (r : Words) → NoRow w (highest_part r) c r
    → (i : ℕ) → 1 ≤ i → i ≤ c → row_at w i ≡ r → ⊥
none_like w c ok r none i l h q =
    let e : i - 1 + 1 ≡ i = omega arith in
    let own : RowOk w (i - 1) r = subst (RowOk w (i - 1)) (ap (row_at w) e ∙ q) (ok (i - 1) (omega arith)) in
    let p = highest_low w (i - 1) r own in
    none i (omega arith) h q
