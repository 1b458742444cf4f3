-- The table's rules, tested row by row.
use Prim.Native.Nat.{ℕ, ◌+◌, ◌≤◌, ◌<◌}
use mathlib.Core.Path.{◌≡◌, sym, ap, ◌∙◌, subst}
use mathlib.Core.Bool.{Bool, false, not}
use mathlib.Core.List.{List}
use native.Mathlib.Omega.{arith}
use mathlib.Core.Bool.{true≢false}
use borrow.Author.Tests.{not-false}
use lib.Dec.{eqb}
use lib.Seq.{length-take-le, get_or-take}
use Rattle.std.proofs.lemmas.Slice.Eq.{slice_eq-Decides}
use Rattle.std.proofs.lemmas.Bool.Decides.{Decides-eqb}
use Rattle.std.proofs.lemmas.Grind.{same_number_lists}
use Rattle.std.specs.Cmp.Lexicographic.{pointwise}
use lib.ListN.{length, get_or, take, replicate, length-replicate, get_or-replicate}
use Rattle.std.specs.Prelude.{Option, Some, None}
use Rattle.std.specs.Option.{is_some}
use Rattle.rows.specs.Search.{Found, NoRow}
use Rattle.rows.proofs.Decide.{fails}
use Rattle.types.specs.WordSize.{size_word}
use Rattle.types.specs.Table.{Words, row_at, size_word_at, build, unfolded, fixed_length, fixed_words, FixedRows, RowOk, Table, Decides}
use Rattle.types.specs.Post.{highest_part}
use Rattle.types.proofs.Laws.{unfolded_row}
use Rattle.types.proofs.Rows.{Rows, rows_add}
use Rattle.types.proofs.Append.{highest_low, none_like}
use Rattle.row_index.specs.Index.{index_length, with_row, RowsIndexed}
use Rattle.row_index.proofs.Index.{rows_indexed_none, rows_indexed_more}

-- The words begin with the fixed ones, by a comparison
pub fixed_by : (w : List ℕ) → fixed_length ≤ length w → (b : Bool) → b ≡ pointwise eqb fixed_words (take fixed_length w) → Decides (FixedRows w) b
fixed_by w room b e =
    let tested = slice_eq-Decides Decides-eqb fixed_words (take fixed_length w) b e in
    record {
      yes = λ y i h. sym (get_or-take fixed_length w i 0 h) ∙ ap (λ (l : List ℕ). get_or l i 0) (sym (tested.0 y));
      no = λ f all.
          true≢false
          (sym (tested.1 (same_number_lists fixed_words (take fixed_length w) (sym (length-take-le fixed_length w room))
          (λ k h. sym (get_or-take fixed_length w k 0 h ∙ all k h)))) ∙ f);
    }

-- Whether a row obeys the rules, by a test. Cited by nothing here now
module _ (w : List ℕ) (m : ℕ) (r : Words) (e : r ≡ row_at w (m + 1)) (b : Bool) (d : Decides (RowOk w m r) b) where
  pub row_rules : not b ≡ false → RowOk w m r
  row_rules q = d.yes (not-false b q)

  pub parts_low : not b ≡ false → (below : ℕ) → below ≡ highest_part r → below ≤ m
  parts_low q below s = subst (λ (x : ℕ). x ≤ m) (sym s) (highest_low w m r (row_rules q))

-- One more row that obeys the rules
module _ (w : List ℕ) (m : ℕ) (r : Words) (e : r ≡ row_at w (m + 1)) (ok : RowOk w m r) where
  pub size_wrong : (count : ℕ) → m < count → (size_word_at w (m + 1) ≡ size_word (build r (unfolded w)) → ⊥) → Decides (Table w count) false
  size_wrong count h wrong =
      fails
      (λ t. wrong
      (t.sizes (m + 1) (omega arith) (omega arith)
      ∙ ap size_word (unfolded_row w count t (m + 1) (omega arith) (omega arith) ∙ ap (λ (x : Words). build x (unfolded w)) (sym e))))

  pub rows_more : Rows w m → size_word_at w (m + 1) ≡ size_word (build r (unfolded w)) → (below : ℕ) → below ≡ highest_part r → NoRow w below m r → Rows w (m + 1)
  rows_more s size below hp none =
      rows_add w m s (subst (RowOk w m) e ok)
      (λ i l h p. none_like w m s.rows r (subst (λ (x : ℕ). NoRow w x m r) hp none) i l h (p ∙ sym e))
      (size ∙ ap (λ (x : Words). size_word (build x (unfolded w))) e)

-- What a search says that finds none
pub none_found : (w : List ℕ) (m count : ℕ) (r : Words) (found : Option ℕ) → Found w m count r found → is_some found ≡ false → NoRow w m count r
none_found w m count r (Some n) f e = absurd (true≢false e)
none_found w m count r None f e = f

-- The rows that were passed are in the index
pub index_start : (w : List ℕ) → RowsIndexed w 0 (replicate index_length 0)
index_start w = rows_indexed_none w (replicate index_length 0) (length-replicate {A = ℕ} index_length 0) (λ bucket h. get_or-replicate index_length bucket 0 0 (omega arith))

pub index_more : {w b b' : List ℕ} {m : ℕ} {r : Words} → r ≡ row_at w (m + 1) → RowsIndexed w m b → b' ≡ with_row b (m + 1) r → RowsIndexed w (m + 1) b'
index_more {w} {m = m} {r = r} e s q = subst (RowsIndexed w (m + 1)) (sym q) (rows_indexed_more s r (sym e))
