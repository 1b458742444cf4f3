-- What is read of a row is what the row unfolded has.
use Prim.Native.Nat.{ℕ, suc, ◌+◌, ◌-◌, ◌*◌, ◌≤◌, ◌<◌}
use mathlib.Core.Path.{◌≡◌, refl, sym, ap, ◌∙◌, subst}
use mathlib.Core.List.{List}
use mathlib.Core.Bool.{Bool, true, false, cond, and-false}
use mathlib.Core.Logic.{◌⊎◌, inl, inr, ⊎_elim}
use native.Mathlib.Omega.{arith}
use native.Mathlib.Nat.{le-suc_iff}
use borrow.Author.Tests.{eq-eqb, ne_eqb, eqb-false, le-ltb}
use lib.Dec.{eqb}
use Rattle.types.specs.Ty.{Ty, end, node, kind_of, first_of, second_of, size_of, name_of, same, desugar, remove_aliasing, strip_to}
use Rattle.types.specs.Table.{Words, row_width, row_from, row_at, build, unfolded, Table, RowOk, IsType, IsCell}
use Rattle.types.specs.Post.{HasTypePart, TypePart, CellPart, OnlyAliases, Strips, StrippedBy}
use Rattle.types.proofs.Laws.{unfolded_row, row_ok, same_refl, same_false, injective}

-- Aliases stripped

pub desugar_alias : (t : Ty) → kind_of t ≡ 10 → desugar t ≡ desugar (first_of t)
unfolding desugar
desugar_alias end e = refl
desugar_alias (node k a b s n) e = rw (eq-eqb k 10 e)

pub desugar_other : (t : Ty) → (kind_of t ≡ 10 → ⊥) → desugar t ≡ t
unfolding desugar
desugar_other end ne = refl
desugar_other (node k a b s n) ne = rw (ne_eqb k 10 ne)

pub desugar_plain : (t : Ty) → kind_of (desugar t) ≡ 10 → ⊥
unfolding desugar
desugar_plain end e = omega arith
desugar_plain (node k a b s n) e = go (eqb k 10) refl (desugar_plain a) e
  where
    go : (c : Bool) → eqb k 10 ≡ c → (kind_of (desugar a) ≡ 10 → ⊥) → kind_of (cond c (desugar a) (node k a b s n)) ≡ 10 → ⊥
    go true q lower e = lower e
    go false q lower e = eqb-false k 10 q e

pub desugar_twice : (t : Ty) → desugar (desugar t) ≡ desugar t
desugar_twice t = desugar_other (desugar t) (desugar_plain t)

pub strip_alias : (t : Ty) → (kind_of t ≡ 10) ⊎ (kind_of t ≡ 11) → remove_aliasing t ≡ remove_aliasing (first_of t)
unfolding remove_aliasing
strip_alias end e = refl
strip_alias (node k a b s n) (inl e) = rw (eq-eqb k 10 e)
strip_alias (node k a b s n) (inr e) = let ne : k ≡ 10 → ⊥ = omega arith in rw (ne_eqb k 10 ne, eq-eqb k 11 e)

pub strip_other : (t : Ty) → (kind_of t ≡ 10 → ⊥) → (kind_of t ≡ 11 → ⊥) → remove_aliasing t ≡ t
unfolding remove_aliasing
strip_other end p q = refl
strip_other (node k a b s n) p q = rw (ne_eqb k 10 p, ne_eqb k 11 q)

module _ (w : List ℕ) (count : ℕ) (t : Table w count) (n : ℕ) (low : 1 ≤ n) (high : n ≤ count) where
  pub kind_of_lem : kind_of (unfolded w n) ≡ (row_at w n).kind
  kind_of_lem = ap kind_of (unfolded_row w count t n low high)

  pub first_of_lem : first_of (unfolded w n) ≡ unfolded w (row_at w n).first
  first_of_lem = ap first_of (unfolded_row w count t n low high)

-- Type rows and cells, by what they unfold to
module _ (w : List ℕ) (count : ℕ) (t : Table w count) (n : ℕ) where
  pub type_kind_lem : IsType w count n → kind_of (unfolded w n) ≤ 11
  type_kind_lem is = subst (λ (k : ℕ). k ≤ 11) (sym (kind_of_lem w count t n is.low is.high)) is.kind

  pub kind_type : 1 ≤ n → n ≤ count → kind_of (unfolded w n) ≤ 11 → IsType w count n
  kind_type l h k = record { low = l; high = h; kind = subst (λ (x : ℕ). x ≤ 11) (kind_of_lem w count t n l h) k }

  pub cell_kind : (k : ℕ) → IsCell w count k n → 1 ≤ n → kind_of (unfolded w n) ≡ k
  cell_kind k is l = ⊎_elim (λ (z : n ≡ 0). absurd (omega arith)) (λ (e : (row_at w n).kind ≡ k). kind_of_lem w count t n l is.high ∙ e) is.kind

-- Among more rows it is the same
pub type_wider : (w : List ℕ) (m m' n : ℕ) → m ≤ m' → IsType w m n → IsType w m' n
type_wider w m m' n h is = record { low = is.low; high = omega (arith, is.high); kind = is.kind }

pub cell_wider : (w : List ℕ) (m m' k n : ℕ) → m ≤ m' → IsCell w m k n → IsCell w m' k n
cell_wider w m m' k n h is = record { high = omega (arith, is.high); kind = is.kind }

-- What the words r of row n are
module _ (w : List ℕ) (count : ℕ) (t : Table w count) (n : ℕ) (low : 1 ≤ n) (high : n ≤ count) (r : Words) (e : r ≡ row_at w n) where
  obeys : RowOk w (n - 1) r
  obeys = subst (RowOk w (n - 1)) (sym e) (row_ok w count t n low high)

  unfolds : unfolded w n ≡ build r (unfolded w)
  unfolds = unfolded_row w count t n low high ∙ ap (λ (x : Words). build x (unfolded w)) (sym e)

  pub read_kind : r.kind ≡ kind_of (unfolded w n)
  read_kind = sym (ap kind_of unfolds)

  pub read_name : r.name ≡ name_of (unfolded w n)
  read_name = sym (ap name_of unfolds)

  pub read_size : kind_of (unfolded w n) ≡ 7 → r.second ≡ size_of (unfolded w n)
  read_size k = sym (rw (eq-eqb r.kind 7 (read_kind ∙ k)) at (ap size_of unfolds))

  -- The first word, where it is a type row
  pub read_type : 6 ≤ r.kind → (r.kind ≡ 8 → ⊥) → TypePart w count n (first_of (unfolded w n)) r.first
  read_type l ne =
      let is : IsType w (n - 1) r.first = rw (le-ltb r.kind 6 l, ne_eqb r.kind 8 ne) at obeys.first in
      record { is = type_wider w (n - 1) count r.first (omega arith) is; lower = omega (arith, is.high); type = sym (ap first_of unfolds) }

  pub read_part : HasTypePart (unfolded w n) → TypePart w count n (first_of (unfolded w n)) r.first
  read_part p = read_type (omega (arith, read_kind, p.0)) (λ k. p.1 (sym read_kind ∙ k))

  pub read_fields : kind_of (unfolded w n) ≡ 8 → CellPart w count n 12 (first_of (unfolded w n)) r.first
  read_fields k =
      let l : 6 ≤ r.kind = omega (arith, read_kind) in
      let is : IsCell w (n - 1) 12 r.first = rw (le-ltb r.kind 6 l, eq-eqb r.kind 8 (read_kind ∙ k)) at obeys.first in
      record { is = cell_wider w (n - 1) count 12 r.first (omega arith) is; lower = omega (arith, is.high); type = sym (ap first_of unfolds) }

  -- The second word, where it is a cell of kind k
  read_cell : (k : ℕ) → (r.kind ≡ 7 → ⊥) → IsCell w (n - 1) k r.second → CellPart w count n k (second_of (unfolded w n)) r.second
  read_cell k ne is =
      record {
        is = cell_wider w (n - 1) count k r.second (omega arith) is;
        lower = omega (arith, is.high);
        type = sym (rw (ne_eqb r.kind 7 ne) at (ap second_of unfolds));
      }

  pub read_arguments : kind_of (unfolded w n) ≡ 9 → CellPart w count n 13 (second_of (unfolded w n)) r.second
  read_arguments k =
      let e9 : r.kind ≡ 9 = read_kind ∙ k in
      let n7 : r.kind ≡ 7 → ⊥ = omega arith in
      let n12 : r.kind ≡ 12 → ⊥ = omega arith in
      read_cell 13 n7 (rw (ne_eqb r.kind 7 n7, ne_eqb r.kind 12 n12, eq-eqb r.kind 9 e9) at obeys.second)

  read_rest_as : 12 ≤ r.kind → CellPart w count n r.kind (second_of (unfolded w n)) r.second
  read_rest_as l = ⊎_elim field_rest argument_rest kinds
    where
      n7 : r.kind ≡ 7 → ⊥
      n7 = omega arith

      kinds : (r.kind ≡ 12) ⊎ (r.kind ≡ 13)
      kinds = let h : r.kind ≤ suc 12 = obeys.kind_high in ⊎_elim (λ (b : r.kind ≤ 12). inl (omega arith)) (λ (q : r.kind ≡ 13). inr q) (le-suc_iff.0 h)

      field_rest : r.kind ≡ 12 → CellPart w count n r.kind (second_of (unfolded w n)) r.second
      field_rest k =
          let is : IsCell w (n - 1) 12 r.second = rw (ne_eqb r.kind 7 n7, eq-eqb r.kind 12 k) at obeys.second in
          read_cell r.kind n7 (subst (λ (x : ℕ). IsCell w (n - 1) x r.second) (sym k) is)

      argument_rest : r.kind ≡ 13 → CellPart w count n r.kind (second_of (unfolded w n)) r.second
      argument_rest k =
          let n12 : r.kind ≡ 12 → ⊥ = omega arith in
          let n9 : r.kind ≡ 9 → ⊥ = omega arith in
          let is : IsCell w (n - 1) 13 r.second =
          rw (ne_eqb r.kind 7 n7, ne_eqb r.kind 12 n12, ne_eqb r.kind 9 n9, eq-eqb r.kind 13 k) at obeys.second in
          read_cell r.kind n7 (subst (λ (x : ℕ). IsCell w (n - 1) x r.second) (sym k) is)

  pub read_rest : 12 ≤ kind_of (unfolded w n) → CellPart w count n (kind_of (unfolded w n)) (second_of (unfolded w n)) r.second
  read_rest l = subst (λ (k : ℕ). CellPart w count n k (second_of (unfolded w n)) r.second) read_kind (read_rest_as (omega (arith, read_kind)))

-- The words at a row's place are the row's
pub row_placed : (w : List ℕ) (at place : ℕ) → place ≡ row_width * at - row_width → (r : Words) → r ≡ row_from w place → r ≡ row_at w at
row_placed w at place p r e = e ∙ ap (row_from w) p

-- The type that is wanted, one that is no distinct alias, and another distinct alias
pub strip_to_here : (wanted t : Ty) → wanted ≡ t → strip_to wanted t ≡ t
unfolding strip_to
strip_to_here wanted end e = refl
strip_to_here wanted (node k a b s n) e =
    let q : same wanted (node k a b s n) ≡ true = ap (same wanted) (sym e) ∙ same_refl wanted in
    rw q (simp and-false)

pub strip_to_other : (wanted t : Ty) → (kind_of t ≡ 11 → ⊥) → strip_to wanted t ≡ t
unfolding strip_to
strip_to_other wanted end ne = refl
strip_to_other wanted (node k a b s n) ne = rw (ne_eqb k 11 ne)

pub strip_to_next : (wanted t : Ty) → kind_of t ≡ 11 → same wanted t ≡ false → strip_to wanted t ≡ strip_to wanted (first_of t)
unfolding strip_to
strip_to_next wanted end e q = refl
strip_to_next wanted (node k a b s n) e q = rw (eq-eqb k 11 e, q)

-- A row on the way from row n to what is left of it
pub record Stripping (w : List ℕ) (count n : ℕ) (Says : ℕ → Words → Bool → Type 0) (at : ℕ) : Type 0 where
  pub is : IsType w count at
  pub lower : at < n + 1
  pub type : (strip : Ty → Ty) → Strips strip w count Says → strip (unfolded w at) ≡ strip (unfolded w n)

module _ (w : List ℕ) (count n : ℕ) (Says : ℕ → Words → Bool → Type 0) where
  module _ (at : ℕ) (s : Stripping w count n Says at) (r : Words) (e : r ≡ row_at w at) where
    pub strip_on : Table w count → OnlyAliases w count Says → (b : Bool) → Says at r b → b ≡ false → Stripping w count n Says r.first
    strip_on t only b says goes =
        let f = subst (Says at r) goes says in
        let l = only at r s.is e f in
        let p = read_type w count t at s.is.low s.is.high r e (omega arith) (omega arith) in
        record {
          is = p.is;
          lower = omega (arith, s.lower, p.lower);
          type = λ strip by. ap strip p.type ∙ sym (by.goes_on at r s.is e f) ∙ s.type strip by;
        }

-- What the three tests say of a row
module _ (w : List ℕ) (count : ℕ) (t : Table w count) (at : ℕ) (is : IsType w count at) (r : Words) (e : r ≡ row_at w at) where
  kind_at_lem : kind_of (unfolded w at) ≡ r.kind
  kind_at_lem = sym (read_kind w count t at is.low is.high r e)

  pub desugar_stays : (r.kind ≡ 10 → ⊥) → desugar (unfolded w at) ≡ unfolded w at
  desugar_stays ne = desugar_other (unfolded w at) (λ z. ne (sym kind_at_lem ∙ z))

  pub desugar_on : r.kind ≡ 10 → desugar (unfolded w at) ≡ desugar (first_of (unfolded w at))
  desugar_on k = desugar_alias (unfolded w at) (kind_at_lem ∙ k)

  pub remove_aliasing_stays : r.kind < 10 → remove_aliasing (unfolded w at) ≡ unfolded w at
  remove_aliasing_stays l = strip_other (unfolded w at) (omega (arith, kind_at_lem)) (omega (arith, kind_at_lem))

  pub remove_aliasing_on : 10 ≤ r.kind → remove_aliasing (unfolded w at) ≡ remove_aliasing (first_of (unfolded w at))
  remove_aliasing_on l = strip_alias (unfolded w at) kinds
    where
      kinds : (kind_of (unfolded w at) ≡ 10) ⊎ (kind_of (unfolded w at) ≡ 11)
      kinds =
          let h : kind_of (unfolded w at) ≤ suc 10 = type_kind_lem w count t at is in
          ⊎_elim (λ (b : kind_of (unfolded w at) ≤ 10). inl (omega (arith, kind_at_lem))) (λ (q : kind_of (unfolded w at) ≡ 11). inr q) (le-suc_iff.0 h)

  module _ (wanted : ℕ) where
    pub strip_to_stays : (at ≡ wanted) ⊎ (r.kind ≡ 11 → ⊥) → strip_to (unfolded w wanted) (unfolded w at) ≡ unfolded w at
    strip_to_stays =
        ⊎_elim
        (λ (same : at ≡ wanted). strip_to_here (unfolded w wanted) (unfolded w at) (ap (unfolded w) (sym same)))
        (λ (ne : r.kind ≡ 11 → ⊥). strip_to_other (unfolded w wanted) (unfolded w at) (λ k. ne (sym kind_at_lem ∙ k)))

    pub strip_to_on : wanted ≤ count → (at ≡ wanted → ⊥) → r.kind ≡ 11 → strip_to (unfolded w wanted) (unfolded w at) ≡ strip_to (unfolded w wanted) (first_of (unfolded w at))
    strip_to_on h ne k =
        strip_to_next (unfolded w wanted) (unfolded w at) (kind_at_lem ∙ k) (same_false _ _ (λ q. ne (sym (injective w count t wanted at h is.high q))))

-- What is left by a way to strip that the test is a test of
pub stripped : (strip : Ty → Ty) (w : List ℕ) (count n : ℕ) (Says : ℕ → Words → Bool → Type 0) (r : ℕ) → StrippedBy w count n Says r → Strips strip w count Says → TypePart w count (n + 1) (strip (unfolded w n)) r
stripped strip w count n Says r s by = record { is = s.is; lower = s.lower; type = s.type strip by }
