-- The index of rows: a search along a bucket, a row that comes into its bucket.
use Prim.Native.Nat.{ℕ, ◌+◌, ◌-◌, ◌≤◌, ◌<◌}
use mathlib.Core.Path.{◌≡◌, refl, sym, ap, ◌∙◌, subst}
use mathlib.Core.Bool.{Bool, true, false}
use mathlib.Core.List.{List}
use mathlib.Core.Logic.{inl, inr, ⊎_elim}
use native.Mathlib.Omega.{arith}
use borrow.Author.Tests.{leb-true, leb-false, le-leb, lt-leb, eqb-true, eqb-false}
use lib.Dec.{leb, eqb}
use lib.ListN.{length, get_or, set, take, length-set}
use lib.Seq.{get_or-set_same, get_or-set_other, drop-set-lt}
use Rattle.literal.specs.Digits.{bytes, DigitTable}
use Rattle.rows.specs.Row.{row_at}
use Rattle.rows.specs.Search.{Decides}
use Rattle.rows.specs.declared.Words.{Words}
use Rattle.rows.proofs.Search.{last_or}
use Rattle.row_index.specs.Index.{heads, places, digits_start, index_length, digits_in, bucket_of, with_row, Highest, RowsIndexed, Indexed}

pub bucket_low : (r : Words) → bucket_of r < heads
unfolding bucket_of
bucket_low r = omega arith

-- Rows are in their buckets as far as there are places
indexed_far : {w : List ℕ} {count : ℕ} {b : List ℕ} (l : RowsIndexed w count b) (i : ℕ) → i ≤ count → i ≤ places → i ≤ l.last
indexed_far l i h room = ⊎_elim (λ (e : l.last ≡ _). omega arith) (λ (e : l.last ≡ places). omega arith) l.all

-- The search for the row r past row m has come to row n of its bucket
pub record Following (w b : List ℕ) (m count : ℕ) (r : Words) (n : ℕ) : Type 0 where
  pub indexed : RowsIndexed w count b
  pub high : n ≤ indexed.last
  pub own : 1 ≤ n → bucket_of (row_at w n) ≡ bucket_of r
  pub top : (i : ℕ) → m < i → i ≤ indexed.last → row_at w i ≡ r → i ≤ n

module _ (w b : List ℕ) (m count : ℕ) (r : Words) where
  pub following_start : RowsIndexed w count b → (bucket : ℕ) → bucket ≡ bucket_of r → bucket < heads → Following w b m count r (get_or b bucket 0)
  following_start l bucket e h =
      let first = l.head bucket h in
      record {
        indexed = l;
        high = omega (arith, first.low);
        own = λ p. first.own p ∙ e;
        top = λ i p q x. first.top i (omega arith) (omega arith) (ap bucket_of x ∙ sym e);
      }

  module _ (n : ℕ) (s : Following w b m count r n) (past : m < n) where
    module _ (q : Words) (e : q ≡ row_at w n) (x : Bool) (d : Decides (q ≡ r) x) where
      pub following_on : x ≡ false → Following w b m count r (get_or b (heads + n - 1) 0)
      following_on f =
          let next = s.indexed.link n (omega arith) s.high in
          let mine = s.own (omega arith) in
          record {
            indexed = s.indexed;
            high = omega (arith, next.low, s.high);
            own = λ p. next.own p ∙ mine;
            top = λ i p h g. next.top i (omega arith) (lower i (s.top i p h g) g) (ap bucket_of g ∙ sym mine);
          }
        where
          lower : (i : ℕ) → i ≤ n → row_at w i ≡ r → i < n
          lower i h g =
              last_or (n - 1) i (omega arith) (i < n) (λ l. omega arith) (λ here. let j : n ≡ i = omega arith in absurd (d.no f (e ∙ ap (row_at w) j ∙ g)))

-- A row in its bucket
pub with_row_lem : (b : List ℕ) (n : ℕ) (r : Words) → n ≤ places → with_row b n r ≡ set (set b (heads + n - 1) (get_or b (bucket_of r) 0)) (bucket_of r) n
unfolding with_row
with_row_lem b n r h = simp (le-leb _ _ h)

pub without_row : (b : List ℕ) (n : ℕ) (r : Words) → places < n → with_row b n r ≡ b
unfolding with_row
without_row b n r h = simp (lt-leb _ _ h)

pub row_linked : (b : List ℕ) (n : ℕ) (r : Words) → n ≤ places → (bucket : ℕ) → bucket ≡ bucket_of r
    → set (set b (heads + n - 1) (get_or b bucket 0)) bucket n ≡ with_row b n r
row_linked b n r h bucket e = ap (λ (x : ℕ). set (set b (heads + n - 1) (get_or b x 0)) x n) e ∙ sym (with_row_lem b n r h)

-- An index of no rows: the words of the buckets are 0
pub rows_indexed_none : (w b : List ℕ) → length b ≡ index_length → ((bucket : ℕ) → bucket < heads → get_or b bucket 0 ≡ 0) → RowsIndexed w 0 b
rows_indexed_none w b long zeros =
    record {
      long = long;
      last = 0;
      few = omega arith;
      fits = omega arith;
      all = inl refl;
      head = λ bucket h. subst (Highest w bucket (0 + 1)) (sym (zeros bucket h))
          (record { low = omega arith; own = λ p. absurd (omega arith); top = λ i l q x. omega arith });
      link = λ n l h. absurd (omega arith);
    }

-- An index of rows is one of the same rows in other words
module _ (w w' : List ℕ) (c : ℕ) (same : (i : ℕ) → 1 ≤ i → i ≤ c → row_at w' i ≡ row_at w i) where
  highest_kept : (bucket n v : ℕ) → n ≤ c + 1 → Highest w bucket n v → Highest w' bucket n v
  highest_kept bucket n v h t =
      record {
        low = t.low;
        own = λ p. let l = t.low in ap bucket_of (same v p (omega arith)) ∙ t.own p;
        top = λ i p l e. t.top i p l (sym (ap bucket_of (same i p (omega arith))) ∙ e);
      }

rows_indexed_kept : {w w' : List ℕ} {c : ℕ} {b : List ℕ} → RowsIndexed w c b → ((i : ℕ) → 1 ≤ i → i ≤ c → row_at w' i ≡ row_at w i) → RowsIndexed w' c b
rows_indexed_kept {w} {w'} {c} {b} l same =
    let f = l.few in
    record {
      long = l.long;
      last = l.last;
      few = l.few;
      fits = l.fits;
      all = l.all;
      head = λ bucket h. highest_kept w w' c same bucket _ _ (omega arith) (l.head bucket h);
      link = λ n p h.
          highest_kept w w' c same _ n _ (omega arith)
          (subst (λ (x : ℕ). Highest w x n (get_or b (heads + n - 1) 0)) (sym (ap bucket_of (same n p (omega arith)))) (l.link n p h));
    }

-- One more row, in its bucket if there is a place for it
module _ (w : List ℕ) (c : ℕ) (b : List ℕ) (r : Words) (e : row_at w (c + 1) ≡ r) where
  -- no place: all places are taken
  rows_indexed_full : RowsIndexed w c b → places < c + 1 → RowsIndexed w (c + 1) b
  rows_indexed_full l h =
      let f = l.few in
      let p = l.fits in
      record {
        long = l.long;
        last = l.last;
        few = omega arith;
        fits = p;
        all = inr (⊎_elim (λ (q : l.last ≡ c). omega arith) (λ (q : l.last ≡ places). q) l.all);
        head = l.head;
        link = l.link;
      }

  module _ (l : RowsIndexed w c b) (room : c + 1 ≤ places) where
    last_row : l.last ≡ c
    last_row = ⊎_elim (λ (q : l.last ≡ c). q) (λ (q : l.last ≡ places). let f = l.few in absurd (omega arith)) l.all

    old : (bucket : ℕ) → bucket < heads → Highest w bucket (c + 1) (get_or b bucket 0)
    old bucket h = subst (λ (n : ℕ). Highest w bucket (n + 1) (get_or b bucket 0)) last_row (l.head bucket h)

    abbrev after : List ℕ
    after = set (set b (heads + (c + 1) - 1) (get_or b (bucket_of r) 0)) (bucket_of r) (c + 1)

    head_own : get_or after (bucket_of r) 0 ≡ c + 1
    head_own =
        let h = bucket_low r in
        let n = l.long in
        let p : bucket_of r < length (set b (heads + (c + 1) - 1) (get_or b (bucket_of r) 0)) = simp length-set (omega arith) in
        simp (get_or-set_same, p)

    head_other : (i : ℕ) → i < heads → (i ≡ bucket_of r → ⊥) → get_or after i 0 ≡ get_or b i 0
    head_other i h ne = let n : i ≡ heads + (c + 1) - 1 → ⊥ = omega arith in simp (get_or-set_other, ne, n)

    link_own : get_or after (heads + (c + 1) - 1) 0 ≡ get_or b (bucket_of r) 0
    link_own =
        let h = bucket_low r in
        let ne : heads + (c + 1) - 1 ≡ bucket_of r → ⊥ = omega arith in
        let n = l.long in
        let p : heads + (c + 1) - 1 < length b = omega arith in
        simp (get_or-set_other, get_or-set_same, ne, p)

    link_other : (i : ℕ) → heads ≤ i → i < heads + c → get_or after i 0 ≡ get_or b i 0
    link_other i low high =
        let h = bucket_low r in
        let ne : i ≡ bucket_of r → ⊥ = omega arith in
        let n : i ≡ heads + (c + 1) - 1 → ⊥ = omega arith in
        simp (get_or-set_other, ne, n)

    head_after : (bucket : ℕ) → bucket < heads → Highest w bucket (c + 1 + 1) (get_or after bucket 0)
    head_after bucket h = go (eqb bucket (bucket_of r)) refl
      where
        go : (t : Bool) → eqb bucket (bucket_of r) ≡ t → Highest w bucket (c + 1 + 1) (get_or after bucket 0)
        go true t =
            let q = eqb-true bucket (bucket_of r) t in
            subst (Highest w bucket (c + 1 + 1)) (sym (ap (λ (x : ℕ). get_or after x 0) q ∙ head_own))
            (record { low = omega arith; own = λ p. ap bucket_of e ∙ sym q; top = λ i p l x. omega arith })
        go false t =
            let ne = eqb-false bucket (bucket_of r) t in
            let o = old bucket h in
            subst (Highest w bucket (c + 1 + 1)) (sym (head_other bucket h ne))
            (record {
              low = omega (arith, o.low);
              own = o.own;
              top = λ i p l x.
                  last_or c i (omega arith) (i ≤ get_or b bucket 0) (λ k. o.top i p (omega arith) x)
                  (λ here. absurd (ne (sym x ∙ ap (λ (j : ℕ). bucket_of (row_at w j)) here ∙ ap bucket_of e)));
            })

    link_after : (n : ℕ) → 1 ≤ n → n ≤ c + 1 → Highest w (bucket_of (row_at w n)) n (get_or after (heads + n - 1) 0)
    link_after n p h = last_or c n h (Highest w (bucket_of (row_at w n)) n (get_or after (heads + n - 1) 0)) below last
      where
        below : n ≤ c → Highest w (bucket_of (row_at w n)) n (get_or after (heads + n - 1) 0)
        below k =
            let f = last_row in
            subst (Highest w (bucket_of (row_at w n)) n) (sym (link_other (heads + n - 1) (omega arith) (omega arith))) (l.link n p (omega arith))

        last : n ≡ c + 1 → Highest w (bucket_of (row_at w n)) n (get_or after (heads + n - 1) 0)
        last here =
            subst (λ (x : ℕ). Highest w (bucket_of (row_at w x)) x (get_or after (heads + x - 1) 0)) (sym here)
            (subst (Highest w (bucket_of (row_at w (c + 1))) (c + 1)) (sym link_own)
            (subst (λ (x : ℕ). Highest w x (c + 1) (get_or b (bucket_of r) 0)) (sym (ap bucket_of e)) (old (bucket_of r) (bucket_low r))))

    rows_indexed_after : RowsIndexed w (c + 1) after
    rows_indexed_after =
        record { long = simp length-set l.long; last = c + 1; few = omega arith; fits = room; all = inl refl; head = head_after; link = link_after }

pub rows_indexed_more : {w : List ℕ} {c : ℕ} {b : List ℕ} → RowsIndexed w c b → (r : Words) → row_at w (c + 1) ≡ r → RowsIndexed w (c + 1) (with_row b (c + 1) r)
rows_indexed_more {w} {c} {b} l r e = go (leb (c + 1) places) refl
  where
    go : (t : Bool) → leb (c + 1) places ≡ t → RowsIndexed w (c + 1) (with_row b (c + 1) r)
    go true t = let h = leb-true _ _ t in subst (RowsIndexed w (c + 1)) (sym (with_row_lem b (c + 1) r h)) (rows_indexed_after w c b r e l h)
    go false t = let h = leb-false _ _ t in subst (RowsIndexed w (c + 1)) (sym (without_row b (c + 1) r h)) (rows_indexed_full w c b r e l h)

-- The digits stay where they are
digits_kept : (b : List ℕ) (n : ℕ) (r : Words) → 1 ≤ n → digits_in (with_row b n r) ≡ digits_in b
digits_kept b n r l = go (leb n places) refl
  where
    go : (t : Bool) → leb n places ≡ t → digits_in (with_row b n r) ≡ digits_in b
    go true t =
        let h = leb-true n places t in
        let low = bucket_low r in
        let link : heads + n - 1 < digits_start = omega arith in
        let head : bucket_of r < digits_start = omega arith in
        ap digits_in (with_row_lem b n r h)
        ∙ ap (take {A = ℕ} bytes)
        (drop-set-lt digits_start (set b (heads + n - 1) (get_or b (bucket_of r) 0)) (bucket_of r) n head
        ∙ drop-set-lt digits_start b (heads + n - 1) (get_or b (bucket_of r) 0) link)
    go false t = ap digits_in (without_row b n r (leb-false n places t))

-- Both
pub indexed_kept : {w w' : List ℕ} {c : ℕ} {b : List ℕ} → Indexed w c b → ((i : ℕ) → 1 ≤ i → i ≤ c → row_at w' i ≡ row_at w i) → Indexed w' c b
indexed_kept l same = record { rows = rows_indexed_kept l.rows same; digits = l.digits }

pub indexed_more : {w : List ℕ} {c : ℕ} {b : List ℕ} → Indexed w c b → (r : Words) → row_at w (c + 1) ≡ r → Indexed w (c + 1) (with_row b (c + 1) r)
indexed_more {w} {c} {b} l r e =
    record { rows = rows_indexed_more l.rows r e; digits = subst DigitTable (sym (digits_kept b (c + 1) r (omega arith))) l.digits }
