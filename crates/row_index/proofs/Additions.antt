-- Rows that come into an index one after the other.
use Prim.Native.Nat.{ℕ, zero, suc, ◌+◌, ◌-◌, ◌≤◌, ◌<◌}
use mathlib.Core.Path.{◌≡◌, refl, sym, ap, ◌∙◌, subst}
use mathlib.Core.List.{List, ◌++◌, append-nil}
use native.Mathlib.Omega.{arith}
use lib.ListN.{length, get_or, take, drop, replicate, length-append, length-replicate, length-drop, drop_of_length-le, get_or-replicate, get_or-append}
use lib.Seq.{length-take-le, get_or-take, take_at, drop_at}
use Rattle.literal.specs.Digits.{bytes, DigitTable}
use Rattle.rows.specs.Row.{row_at}
use Rattle.row_index.specs.Index.{digits_start, index_length, with_row, with_next, with_rows, Indexed}
use Rattle.row_index.proofs.Index.{rows_indexed_none, indexed_more}

module _ (b w : List ℕ) (m : ℕ) where
  -- no row
  pub rows_none : with_rows b w m m ≡ b
  unfolding with_next
  rows_none = let e : m - m ≡ 0 = omega arith in ap (with_next b w m) e

  -- one row more
  pub rows_more : (n : ℕ) → m ≤ n → with_rows b w m (n + 1) ≡ with_row (with_rows b w m n) (n + 1) (row_at w (n + 1))
  unfolding with_next
  rows_more n h =
      let e : n + 1 - m ≡ suc (n - m) = omega arith in
      let last : m + (n - m) + 1 ≡ n + 1 = omega arith in
      ap (with_next b w m) e ∙ ap (λ (i : ℕ). with_row (with_next b w m (n - m)) i (row_at w i)) last

  -- rows, and then more rows
  next_on : (k j : ℕ) → with_next (with_next b w m k) w (m + k) j ≡ with_next b w m (k + j)
  unfolding with_next
  next_on k zero = let e : k ≡ k + 0 = omega arith in ap (with_next b w m) e
  next_on k (suc j) =
      let e : suc (k + j) ≡ k + suc j = omega arith in
      let last : m + k + j + 1 ≡ m + (k + j) + 1 = omega arith in
      ap (λ (x : List ℕ). with_row x (m + k + j + 1) (row_at w (m + k + j + 1))) (next_on k j)
      ∙ ap (λ (i : ℕ). with_row (with_next b w m (k + j)) i (row_at w i)) last
      ∙ ap (with_next b w m) e

  pub rows_then : (k n : ℕ) → m ≤ k → k ≤ n → with_rows (with_rows b w m k) w k n ≡ with_rows b w m n
  rows_then k n l h =
      let e : k ≡ m + (k - m) = omega arith in
      let q : k - m + (n - k) ≡ n - m = omega arith in
      ap (λ (x : ℕ). with_next (with_next b w m (k - m)) w x (n - k)) e ∙ next_on (k - m) (n - k) ∙ ap (with_next b w m) q

  -- An index of the first m rows becomes one of the first n
  indexed_next : Indexed w m b → (k : ℕ) → Indexed w (m + k) (with_next b w m k)
  unfolding with_next
  indexed_next l zero = let e : m ≡ m + 0 = omega arith in subst (λ (c : ℕ). Indexed w c b) e l
  indexed_next l (suc k) =
      let e : m + k + 1 ≡ m + suc k = omega arith in
      subst (λ (c : ℕ). Indexed w c (with_next b w m (suc k))) e (indexed_more (indexed_next l k) (row_at w (m + k + 1)) refl)

  pub indexed_rows : (n : ℕ) → m ≤ n → Indexed w m b → Indexed w n (with_rows b w m n)
  indexed_rows n h l = let e : m + (n - m) ≡ n = omega arith in subst (λ (c : ℕ). Indexed w c (with_rows b w m n)) e (indexed_next l (n - m))

-- The same rows in other words
module _ (b w w' : List ℕ) (m : ℕ) where
  next_kept : (k : ℕ) → ((i : ℕ) → m < i → i ≤ m + k → row_at w' i ≡ row_at w i) → with_next b w' m k ≡ with_next b w m k
  unfolding with_next
  next_kept zero same = refl
  next_kept (suc k) same =
      ap (λ (x : List ℕ). with_row x (m + k + 1) (row_at w' (m + k + 1))) (next_kept k (λ i l h. same i l (omega arith)))
      ∙ ap (with_row (with_next b w m k) (m + k + 1)) (same (m + k + 1) (omega arith) (omega arith))

  pub rows_kept : (n : ℕ) → ((i : ℕ) → m < i → i ≤ n → row_at w' i ≡ row_at w i) → m ≤ n → with_rows b w' m n ≡ with_rows b w m n
  rows_kept n same h = next_kept (n - m) (λ i l q. same i l (omega arith))

-- A list of which the last m words were written
module _ (l part : List ℕ) (n m : ℕ) (long : length l ≡ n + m) (fits : length part ≡ m) where
  abbrev written : List ℕ
  written = take n l ++ (part ++ drop m (drop n l))

  front_long : length (take n l) ≡ n
  front_long = length-take-le n l (omega arith)

  written_long : length written ≡ length l
  written_long =
      let none : length (drop n l) ≤ m = simp length-drop (omega arith) in
      rw (drop_of_length-le (drop n l) none, append-nil, length-append, front_long, fits, long)

  written_front : (i : ℕ) → i < n → get_or written i 0 ≡ get_or l i 0
  written_front i h = get_or-append (take n l) (part ++ drop m (drop n l)) 0 i (omega (arith, front_long)) ∙ get_or-take n l i 0 h

  written_part : take m (drop n written) ≡ part
  written_part = ap (take m) (drop_at (take n l) (part ++ drop m (drop n l)) n front_long) ∙ take_at part (drop m (drop n l)) m fits

-- A new array, with the digits written and then the first rows in their buckets, is an index of them
module _ (table : List ℕ) (digits : DigitTable table) where
  zeros : List ℕ
  zeros = replicate index_length 0

  zeros_long : length zeros ≡ digits_start + bytes
  unfolding zeros
  zeros_long = length-replicate {A = ℕ} index_length 0

  pub indexed_all : (w b₀ b : List ℕ) (count : ℕ)
      → b₀ ≡ take digits_start (replicate index_length 0) ++ (table ++ drop bytes (drop digits_start (replicate index_length 0))) → b ≡ with_rows b₀ w 0 count → Indexed w count b
  unfolding zeros
  indexed_all w b₀ b count first e =
      let long = written_long zeros table digits_start bytes zeros_long digits.long in
      let front = written_front zeros table digits_start bytes zeros_long digits.long in
      let part = written_part zeros table digits_start bytes zeros_long digits.long in
      subst (Indexed w count) (sym e)
      (indexed_rows b₀ w 0 count (omega arith)
      (record {
        rows = rows_indexed_none w b₀ (ap length first ∙ long ∙ zeros_long)
            (λ bucket h. ap (λ (l : List ℕ). get_or l bucket 0) first ∙ front bucket (omega arith) ∙ get_or-replicate index_length bucket 0 0 (omega arith));
        digits = subst DigitTable (sym (ap (λ (l : List ℕ). take bytes (drop digits_start l)) first ∙ part)) digits;
      }))
