-- A row that is asked for, and the answers of `intern`.
use Prim.Native.Nat.{ℕ, ◌+◌, ◌*◌, ◌^◌, ◌≤◌, ◌<◌}
use mathlib.Core.Path.{◌≡◌, refl, sym, ap, ◌∙◌, subst}
use mathlib.Core.List.{List}
use mathlib.Core.Logic.{◌⊎◌, inl, inr}
use native.Mathlib.Omega.{arith}
use lib.ListN.{length}
use Rattle.std.specs.Prelude.{Option, Some, None}
use Rattle.types.specs.Ty.{Ty, end, node}
use Rattle.row_index.specs.Index.{with_row, with_rows}
use Rattle.types.specs.WordSize.{size_word}
use Rattle.types.specs.Table.{row_width, Words, row_at, build, unfolded, has_type, Table, RowOk, IsType, IsCell, NameOk}
use Rattle.types.specs.Post.{type_of_row, words_of, PartsOk, Sort, Added, NoRoom, Found, highest_part, stored}
use Rattle.types.specs.declared.Row.{Row}
use Rattle.types.specs.declared.Row.TheVariants.{Pointer, Array, Struct, Function, Alias, DistinctAlias, Field, Argument}
use Rattle.types.proofs.Laws.{unfolded_zero, unfolded_row}
use Rattle.types.proofs.Set.{added_found}
use Rattle.types.proofs.Append.{stored_row, stored_linked, added_stored, new_type, none_like}

-- Its words unfold to its type
pub words_type : (row : Row) (look : ℕ → Ty) → look 0 ≡ end → build (words_of row) look ≡ type_of_row row look
words_type (Pointer t) look z = ap (λ (x : Ty). node 6 (look t) x 0 0) z
words_type (Array t size) look z = refl
words_type (Struct fields) look z = ap (λ (x : Ty). node 8 (look fields) x 0 0) z
words_type (Function returned arguments) look z = refl
words_type (Alias t name) look z = ap (λ (x : Ty). node 10 (look t) x 0 name) z
words_type (DistinctAlias t name) look z = ap (λ (x : Ty). node 11 (look t) x 0 name) z
words_type (Field t rest name) look z = refl
words_type (Argument t rest) look z = refl

no_name : (n k : ℕ) → NameOk n k 0
no_name n k = record { used = inr refl; string = λ e. absurd (omega arith) }

name_of : (n k name : ℕ) → 10 ≤ k → k ≤ 12 → (name ≡ 65535 → ⊥) → NameOk n k name
name_of n k name l h ne = record { used = inl (l, h); string = λ e. absurd (ne e) }

-- Its words obey the rules
pub words_ok : (w : List ℕ) (c : ℕ) (row : Row) → PartsOk w c row → RowOk w c (words_of row)
words_ok w c (Pointer t) ok = record { kind_low = omega arith; kind_high = omega arith; first = ok; second = refl; name = no_name (c + 1) 6 }
words_ok w c (Array t size) ok = record { kind_low = omega arith; kind_high = omega arith; first = ok; second = tt; name = no_name (c + 1) 7 }
words_ok w c (Struct fields) ok = record { kind_low = omega arith; kind_high = omega arith; first = ok; second = refl; name = no_name (c + 1) 8 }
words_ok w c (Function returned arguments) ok =
    record { kind_low = omega arith; kind_high = omega arith; first = ok.0; second = ok.1; name = no_name (c + 1) 9 }
words_ok w c (Alias t name) ok =
    record { kind_low = omega arith; kind_high = omega arith; first = ok.0; second = refl; name = name_of (c + 1) 10 name (omega arith) (omega arith) ok.1 }
words_ok w c (DistinctAlias t name) ok =
    record { kind_low = omega arith; kind_high = omega arith; first = ok.0; second = refl; name = name_of (c + 1) 11 name (omega arith) (omega arith) ok.1 }
words_ok w c (Field t rest name) ok =
    record { kind_low = omega arith; kind_high = omega arith; first = ok.0; second = ok.1; name = name_of (c + 1) 12 name (omega arith) (omega arith) ok.2 }
words_ok w c (Argument t rest) ok =
    record { kind_low = omega arith; kind_high = omega arith; first = ok.0; second = ok.1; name = no_name (c + 1) 13 }

-- A row of these words is of its sort
module _ (w : List ℕ) (c n : ℕ) (l : 1 ≤ n) (h : n ≤ c) where
  a_type_lem : (r : Words) → r.kind ≤ 11 → row_at w n ≡ r → IsType w c n
  a_type_lem r k e = record { low = l; high = h; kind = subst (λ (x : Words). x.kind ≤ 11) (sym e) k }

  a_cell : (r : Words) → row_at w n ≡ r → IsCell w c r.kind n
  a_cell r e = record { high = h; kind = inr (ap (λ (x : Words). x.kind) e) }

  pub words_sort : (row : Row) → row_at w n ≡ words_of row → Sort w c row n
  words_sort (Pointer t) e = a_type_lem (words_of (Pointer t)) (omega arith) e
  words_sort (Array t size) e = a_type_lem (words_of (Array t size)) (omega arith) e
  words_sort (Struct fields) e = a_type_lem (words_of (Struct fields)) (omega arith) e
  words_sort (Function returned arguments) e = a_type_lem (words_of (Function returned arguments)) (omega arith) e
  words_sort (Alias t name) e = a_type_lem (words_of (Alias t name)) (omega arith) e
  words_sort (DistinctAlias t name) e = a_type_lem (words_of (DistinctAlias t name)) (omega arith) e
  words_sort (Field t rest name) e = a_cell (words_of (Field t rest name)) e
  words_sort (Argument t rest) e = a_cell (words_of (Argument t rest)) e

-- What `intern` knows after its search for the row's words r, with its answer
pub record Sought (w : List ℕ) (c : ℕ) (row : Row) (r : Words) (m : ℕ) (answer : Option ℕ) : Type 0 where
  pub table : Table w c
  pub parts : PartsOk w c row
  pub words : r ≡ words_of row
  pub highest : m ≡ highest_part r
  pub found : Found w m c r answer

module _ {w : List ℕ} {c : ℕ} {row : Row} {r : Words} {m : ℕ} {answer : Option ℕ} (s : Sought w c row r m answer) where
  pub intern_ok : RowOk w c r
  intern_ok = subst (RowOk w c) (sym s.words) (words_ok w c row s.parts)

  built : build r (unfolded w) ≡ type_of_row row (unfolded w)
  built = ap (λ (x : Words). build x (unfolded w)) s.words ∙ words_type row (unfolded w) (unfolded_zero w)

  pub intern_linked : row_width * (c + 1) ≤ length w → (size : ℕ) {w' : List ℕ} → w' ≡ stored w c r size → (b : List ℕ) {b' : List ℕ} → b' ≡ with_row b (c + 1) r → b' ≡ with_rows b w' c (c + 1)
  intern_linked room size = stored_linked w c r size (omega arith)

-- A row of the table has them
pub intern_found : {w : List ℕ} {c : ℕ} {row : Row} {r : Words} {m n : ℕ} → Sought w c row r m (Some n) → Added w c (type_of_row row (unfolded w)) w n c × Sort w c row n
intern_found {w} {c} {row} {r} {m} {n} s =
    let p = s.found.past in
    let h = s.found.high in
    let l : 1 ≤ n = omega arith in
    let e = s.found.found in (
      added_found w c n (type_of_row row (unfolded w)) s.table l h (unfolded_row w c s.table n l h ∙ ap (λ (x : Words). build x (unfolded w)) e ∙ built s),
      words_sort w c n l h row (e ∙ s.words),
    )

-- None has
module _ {w : List ℕ} {c : ℕ} {row : Row} {r : Words} {m : ℕ} (s : Sought w c row r m None) where
  type_built : build r (unfolded w) ≡ type_of_row row (unfolded w)
  type_built = built s

  none : (i : ℕ) → 1 ≤ i → i ≤ c → row_at w i ≡ r → ⊥
  none = none_like w c s.table.rows r (subst (λ (x : ℕ). Found w x c r None) s.highest s.found)

  pub intern_full : (length w < row_width * (c + 1)) ⊎ (2 ^ 32 ≤ c + 1) → NoRoom w c (type_of_row row (unfolded w)) w
  intern_full full = record { kept = refl; absent = ap (has_type w c) (sym type_built) ∙ new_type w c r s.table (intern_ok s) none; full = full }

  pub intern_new : c + 1 < 2 ^ 32 → row_width * (c + 1) ≤ length w → (size : ℕ) → size ≡ size_word (build r (unfolded w)) → {w' : List ℕ} → w' ≡ stored w c r size
      → Added w c (type_of_row row (unfolded w)) w' (c + 1) (c + 1) × Sort w' (c + 1) row (c + 1)
  intern_new small room size size_is {w'} e =
      let space : row_width * c + row_width ≤ length w = omega arith in
      let added = added_stored w c r size space s.table (intern_ok s) size_is none small in (
        subst (λ (x : List ℕ). Added w c (type_of_row row (unfolded w)) x (c + 1) (c + 1)) (sym e) (subst (λ (u : Ty). Added w c u (stored w c r size) (c + 1) (c + 1)) type_built added),
        words_sort w' (c + 1) (c + 1) (omega arith) (omega arith) row (ap (λ (x : List ℕ). row_at x (c + 1)) e ∙ stored_row w c r size space ∙ s.words),
      )
