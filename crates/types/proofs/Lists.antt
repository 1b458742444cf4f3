-- Lists of cells, walked from their first cell.
use Prim.Native.Nat.{ℕ, suc, ◌+◌, ◌≤◌, ◌<◌}
use mathlib.Core.Path.{◌≡◌, refl, sym, ap, ◌∙◌, subst}
use mathlib.Core.List.{List}
use mathlib.Core.Logic.{inl, inr, ⊎_elim}
use mathlib.Core.Option.{Option, none, some}
use native.Mathlib.Omega.{arith}
use borrow.Author.Tests.{eq-eqb, ne_eqb}
use Rattle.types.specs.Ty.{Ty, end, node, kind_of, first_of, second_of, name_of, cell_count, field_named}
use Rattle.types.specs.Table.{Words, row_at, unfolded, Table, IsCell, IsList}
use Rattle.types.specs.Post.{CellPart, FoundType}
use Rattle.types.proofs.Laws.{unfolded_zero}
use Rattle.types.proofs.Query.{read_kind, read_name, read_type, read_rest, cell_kind}

-- Lists by their first cell

pub count_cell : (t : Ty) → 1 ≤ kind_of t → cell_count t ≡ suc (cell_count (second_of t))
unfolding cell_count
count_cell end l = absurd (omega arith)
count_cell (node k a b s n) l = refl

pub field_here : (name : ℕ) (t : Ty) → 1 ≤ kind_of t → name_of t ≡ name → field_named name t ≡ some (first_of t)
unfolding field_named
field_here name end l e = absurd (omega arith)
field_here name (node k a b s n) l e = rw (eq-eqb n name e)

pub field_later : (name : ℕ) (t : Ty) → (name_of t ≡ name → ⊥) → field_named name t ≡ field_named name (second_of t)
unfolding field_named
field_later name end ne = refl
field_later name (node k a b s n) ne = rw (ne_eqb n name ne)

-- The rest of a list of cells of kind k
module _ (w : List ℕ) (count : ℕ) (t : Table w count) (at : ℕ) (ne : at ≡ 0 → ⊥) (r : Words) (e : r ≡ row_at w at) where
  pub cell_rest : (k : ℕ) → 12 ≤ k → IsCell w count k at → CellPart w count at k (second_of (unfolded w at)) r.second
  cell_rest k l is =
      let low : 1 ≤ at = omega arith in
      let q = cell_kind w count t at k is low in
      subst (λ (x : ℕ). CellPart w count at x (second_of (unfolded w at)) r.second) q (read_rest w count t at low is.high r e (omega arith))

  pub list_rest : IsList w count at → IsList w count r.second × (r.second < at) × (unfolded w r.second ≡ second_of (unfolded w at)) × (1 ≤ kind_of (unfolded w at))
  list_rest =
      ⊎_elim
      (λ (is : IsCell w count 12 at).
      let p = cell_rest 12 (omega arith) is in
      let k = cell_kind w count t at 12 is (omega arith) in
      (inl p.is, p.lower, p.type, omega arith))
      (λ (is : IsCell w count 13 at).
      let p = cell_rest 13 (omega arith) is in
      let k = cell_kind w count t at 13 is (omega arith) in
      (inr p.is, p.lower, p.type, omega arith))

-- Cells counted as far as `at`
pub record Counted (w : List ℕ) (count cell at cells : ℕ) : Type 0 where
  pub list : IsList w count at
  pub high : cell ≤ count
  pub lower : cells + at ≤ cell
  pub total : cells + cell_count (unfolded w at) ≡ cell_count (unfolded w cell)

module _ (w : List ℕ) (count : ℕ) (t : Table w count) (cell at cells : ℕ) (s : Counted w count cell at cells) where
  pub counted_done : at ≡ 0 → cells ≡ cell_count (unfolded w cell)
  unfolding cell_count
  counted_done z =
      let e : cell_count (unfolded w at) ≡ 0 = ap (λ (x : ℕ). cell_count (unfolded w x)) z ∙ ap cell_count (unfolded_zero w) in
      omega (arith, s.total)

  module _ (ne : at ≡ 0 → ⊥) (r : Words) (e : r ≡ row_at w at) where
    pub counted_next : Counted w count cell r.second (cells + 1)
    counted_next =
        let p = list_rest w count t at ne r e s.list in
        let one = count_cell (unfolded w at) p.3 ∙ ap (λ (x : Ty). suc (cell_count x)) (sym p.2) in
        record { list = p.0; high = s.high; lower = omega (arith, s.lower, p.1); total = omega (arith, s.total, one) }

-- The field of that name sought from `cell` on; `found` is what the whole list has
pub record Seeking (w : List ℕ) (count name : ℕ) (found : Option Ty) (cell : ℕ) : Type 0 where
  pub is : IsCell w count 12 cell
  pub same : field_named name (unfolded w cell) ≡ found

module _ (w : List ℕ) (count : ℕ) (t : Table w count) (name : ℕ) (found : Option Ty) (cell : ℕ) (s : Seeking w count name found cell) where
  pub seek_done : cell ≡ 0 → FoundType w count found 0
  unfolding field_named
  seek_done z =
      let e : field_named name (unfolded w cell) ≡ none = ap (λ (x : ℕ). field_named name (unfolded w x)) z ∙ ap (field_named name) (unfolded_zero w) in
      record { absent = λ q. sym s.same ∙ e; is = λ l. absurd (omega arith); type = λ l. absurd (omega arith) }

  module _ (ne : cell ≡ 0 → ⊥) (r : Words) (e : r ≡ row_at w cell) where
    low : 1 ≤ cell
    low = omega arith

    kind_field : kind_of (unfolded w cell) ≡ 12
    kind_field = cell_kind w count t cell 12 s.is low

    named : r.name ≡ name_of (unfolded w cell)
    named = read_name w count t cell low s.is.high r e

    pub seek_next : (r.name ≡ name → ⊥) → Seeking w count name found r.second
    seek_next other =
        let p = cell_rest w count t cell ne r e 12 (omega arith) s.is in
        record { is = p.is; same = ap (field_named name) p.type ∙ sym (field_later name (unfolded w cell) (λ q. other (named ∙ q))) ∙ s.same }

    pub seek_here : r.name ≡ name → FoundType w count found r.first
    seek_here q =
        let k = read_kind w count t cell low s.is.high r e in
        let p = read_type w count t cell low s.is.high r e (omega (arith, k, kind_field)) (omega (arith, k, kind_field)) in
        record {
          absent = λ z. absurd (omega (arith, p.is.low));
          is = λ l. p.is;
          type = λ l. sym s.same ∙ field_here name (unfolded w cell) (omega (arith, kind_field)) (sym named ∙ q) ∙ ap (λ (x : Ty). some x) (sym p.type);
        }
