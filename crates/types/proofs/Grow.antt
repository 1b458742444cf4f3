-- A table that has grown keeps its rows.
use Prim.Native.Nat.{ℕ, zero, suc, ◌+◌, ◌-◌, ◌*◌, ◌≤◌, ◌<◌}
use mathlib.Core.Path.{◌≡◌, refl, sym, ap, ◌∙◌, subst}
use mathlib.Core.List.{List}
use mathlib.Core.Bool.{true, false, ◌||◌}
use mathlib.Core.Logic.{inl, inr, ⊎_elim}
use native.Mathlib.Omega.{arith}
use lib.ListN.{length, get_or}
use lib.Dec.{eqb}
use Rattle.row_index.specs.Index.{with_rows, Indexed}
use Rattle.row_index.proofs.Index.{indexed_kept}
use Rattle.row_index.proofs.Additions.{rows_then, rows_kept, indexed_rows}
use Rattle.types.specs.Ty.{Ty, same}
use Rattle.types.specs.declared.PartKind.{PartKind}
use Rattle.types.specs.declared.PartKind.TheVariants.{Unused, TypeRow, Size, Fields, Arguments}
use Rattle.types.specs.WordSize.{size_word}
use Rattle.types.specs.Table.{Words, row_width, row_at, size_word_at, build, up_to, unfolded, has_type, first_part, second_part, Table, RowOk, PartOk, IsType, IsCell, Extends}
use Rattle.types.proofs.Rows.{Rows, table_rows}

-- The words of the first `count` rows are the same
abbrev pub Kept : (w w' : List ℕ) (count : ℕ) → Type 0
Kept w w' count = (i : ℕ) → i < row_width * count → get_or w' i 0 ≡ get_or w i 0

module _ (w w' : List ℕ) (count : ℕ) (kept : Kept w w' count) where
  pub kept_row : (n : ℕ) → 1 ≤ n → n ≤ count → row_at w' n ≡ row_at w n
  kept_row n l h =
      let k = kept (row_width * n - row_width) (omega arith) in
      let f = kept (row_width * n - row_width + 1) (omega arith) in
      let s = kept (row_width * n - row_width + 2) (omega arith) in
      let m = kept (row_width * n - row_width + 3) (omega arith) in
      λ i. record { kind = k i; first = f i; second = s i; name = m i }

  kept_size : (n : ℕ) → 1 ≤ n → n ≤ count → size_word_at w' n ≡ size_word_at w n
  kept_size n l h = kept (row_width * n - row_width + 4) (omega arith)

  kept_up_to : (m : ℕ) → m ≤ count → up_to w' m ≡ up_to w m
  unfolding up_to
  kept_up_to zero h = refl
  kept_up_to (suc m) h =
      let r = kept_row (suc m) (omega arith) h in
      let f = kept_up_to m (omega arith) in
      λ i n. elim (eqb n (suc m)) [ true ↦ build (r i) (f i) | false ↦ f i n ]

  pub kept_unfolded : (n : ℕ) → n ≤ count → unfolded w' n ≡ unfolded w n
  unfolding unfolded
  kept_unfolded n h = ap (λ (f : ℕ → Ty). f n) (kept_up_to n h)

  pub kept_types : (m : ℕ) → m ≤ count → (t : Ty) → has_type w' m t ≡ has_type w m t
  unfolding has_type
  kept_types zero h t = refl
  kept_types (suc m) h t =
      let p = kept_types m (omega arith) t in
      let q = kept_unfolded (suc m) h in
      λ i. p i || same t (q i)

  pub kept_type : (m n : ℕ) → m ≤ count → IsType w m n → IsType w' m n
  kept_type m n h is =
      let e = kept_row n is.low (omega arith) in
      record { low = is.low; high = is.high; kind = subst (λ (r : Words). r.kind ≤ 11) (sym e) is.kind }

  pub kept_cell : (m k n : ℕ) → m ≤ count → IsCell w m k n → IsCell w' m k n
  kept_cell m k zero h is = record { high = is.high; kind = inl refl }
  kept_cell m k (suc n) h is =
      let e = kept_row (suc n) (omega arith) (omega arith) in
      record {
        high = is.high;
        kind = ⊎_elim (λ (z : suc n ≡ 0). inl z) (λ (q : (row_at w (suc n)).kind ≡ k). inr (ap (λ (r : Words). r.kind) e ∙ q)) is.kind;
      }

  kept_part : (m : ℕ) → m ≤ count → (p : PartKind) (v : ℕ) → PartOk w m p v → PartOk w' m p v
  kept_part m h Unused v ok = ok
  kept_part m h TypeRow v ok = kept_type m v h ok
  kept_part m h Size v ok = tt
  kept_part m h Fields v ok = kept_cell m 12 v h ok
  kept_part m h Arguments v ok = kept_cell m 13 v h ok

  pub kept_ok : (m : ℕ) → m ≤ count → (r : Words) → RowOk w m r → RowOk w' m r
  kept_ok m h r ok =
      record {
        kind_low = ok.kind_low;
        kind_high = ok.kind_high;
        first = kept_part m h (first_part r.kind) r.first ok.first;
        second = kept_part m h (second_part r.kind) r.second ok.second;
        name = ok.name;
      }

  pub kept_rows : (m : ℕ) → m ≤ count → Rows w m → Rows w' m
  kept_rows m h s =
      record {
        rows = λ i l. subst (RowOk w' i) (sym (kept_row (i + 1) (omega arith) (omega arith))) (kept_ok i (omega arith) (row_at w (i + 1)) (s.rows i l));
        distinct = λ i j li hi lj hj e. s.distinct i j li hi lj hj (sym (kept_row i li (omega arith)) ∙ e ∙ kept_row j lj (omega arith));
        sizes = λ n l b. kept_size n l (omega arith) ∙ s.sizes n l b ∙ ap size_word (sym (kept_unfolded n (omega arith)));
      }

  -- A table is one in any words that begin with its rows
  pub kept_table : row_width * count ≤ length w' → Table w count → Table w' count
  kept_table room t =
      let s = kept_rows count (omega arith) (table_rows t) in
      record {
        room = room;
        small = t.small;
        seven = t.seven;
        fixed = λ i h. let l = t.seven in kept i (omega arith) ∙ t.fixed i h;
        rows = s.rows;
        distinct = s.distinct;
        sizes = s.sizes;
      }

pub extends_refl : (w : List ℕ) (count : ℕ) → Extends w count w count
extends_refl w count = record { more = omega arith; long = refl; kept = λ i h. refl; past = λ i h. refl }

pub extends_trans : (w w' w'' : List ℕ) (c c' c'' : ℕ) → Extends w c w' c' → Extends w' c' w'' c'' → Extends w c w'' c''
extends_trans w w' w'' c c' c'' p q =
    let a = p.more in
    let b = q.more in
    record {
      more = omega arith;
      long = q.long ∙ p.long;
      kept = λ i h. q.kept i (omega arith) ∙ p.kept i h;
      past = λ i h. q.past i h ∙ p.past i (omega arith);
    }

module _ (w w' : List ℕ) (c c' : ℕ) (e : Extends w c w' c') where
  pub extends_unfolded : (n : ℕ) → n ≤ c → unfolded w' n ≡ unfolded w n
  extends_unfolded = kept_unfolded w w' c e.kept

  pub extends_type : (n : ℕ) → IsType w c n → IsType w' c' n
  extends_type n is =
      let k = kept_type w w' c e.kept c n (omega arith) is in
      let m = e.more in
      record { low = k.low; high = omega arith; kind = k.kind }

  pub extends_cell : (k n : ℕ) → IsCell w c k n → IsCell w' c' k n
  extends_cell k n is =
      let h = kept_cell w w' c e.kept c k n (omega arith) is in
      let m = e.more in
      record { high = omega arith; kind = h.kind }

  -- The index with the new rows is an index of all
  pub extends_indexed : {b b' : List ℕ} → Indexed w c b → b' ≡ with_rows b w' c c' → Indexed w' c' b'
  extends_indexed {b} l q =
      subst (Indexed w' c') (sym q) (indexed_rows b w' c c' e.more (indexed_kept l (kept_row w w' c e.kept)))

-- New rows and then more rows come into the index
pub extends_linked : (w w' w'' : List ℕ) (c c' c'' : ℕ) → Extends w c w' c' → Extends w' c' w'' c''
    → (b : List ℕ) {b' b'' : List ℕ} → b' ≡ with_rows b w' c c' → b'' ≡ with_rows b' w'' c' c'' → b'' ≡ with_rows b w'' c c''
extends_linked w w' w'' c c' c'' p q b first then =
    let same = rows_kept b w' w'' c c' (λ i l h. kept_row w' w'' c' q.kept i (omega arith) h) p.more in
    then ∙ ap (λ (x : List ℕ). with_rows x w'' c' c'') (first ∙ sym same) ∙ rows_then b w'' c c' c'' p.more q.more
