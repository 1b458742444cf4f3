-- The rows that every table begins with.
use Prim.Native.Nat.{ℕ, zero, suc, ◌+◌, ◌-◌, ◌≤◌, ◌<◌}
use mathlib.Core.Path.{◌≡◌, refl, sym, ap, ◌∙◌, subst}
use mathlib.Core.List.{List, ◌++◌}
use mathlib.Core.Bool.{cond, or_assoc, or-false}
use mathlib.Core.Logic.{inl, inr, ⊎_elim}
use native.Mathlib.Omega.{arith}
use native.Mathlib.Nat.{le-suc_iff}
use borrow.Author.Tests.{lt-ltb, ne_eqb}
use lib.Dec.{eqb}
use borrow.Author.Count.{below_none, below_more}
use lib.ListN.{length, get_or, set, drop, length-set, length-append, length-drop, get_or-append}
use lib.Seq.{get_or-set_same, get_or-set_other}
use Rattle.std.proofs.lemmas.List.{get_or-drop, get_or-append_right}
use Rattle.types.specs.Ty.{Ty, member, fixed_types, unknown, void, bool, u16, i16, pointer, string}
use Rattle.types.specs.WordSize.{to_ir_type, ir_word_size, size_word}
use Rattle.types.specs.Table.{Words, words, row_at, size_word_at, fixed_length, fixed_words, unfolded, up_to, has_type, Table, RowOk, Sizes, IsType}
use Rattle.types.specs.Post.{FixedStored}
use Rattle.types.proofs.Grow.{Kept, kept_unfolded, kept_types, kept_type, kept_table}
use Rattle.types.proofs.Query.{type_wider}

-- A fact of each number below n, the largest first
abbrev pub AllBelow : (n : ℕ) → (ℕ → Type 0) → Type 0
AllBelow zero P = Unit {0}
AllBelow (suc n) P = P n × AllBelow n P

pub each_below : (n : ℕ) (P : ℕ → Type 0) → AllBelow n P → (k : ℕ) → k < n → P k
each_below zero P all k h = absurd (omega arith)
each_below (suc n) P all k h =
    ⊎_elim
    (λ (l : suc k ≤ n). each_below n P all.1 k l)
    (λ (e : suc k ≡ suc n). let q : n ≡ k = omega arith in subst P q all.0)
    (le-suc_iff.0 h)

-- The fixed words are a table

plain : (m k : ℕ) → 1 ≤ k → k < 6 → RowOk fixed_words m (words k 0 0 0)
plain m k l h =
    let n7 : k ≡ 7 → ⊥ = omega arith in
    let n9 : k ≡ 9 → ⊥ = omega arith in
    let n12 : k ≡ 12 → ⊥ = omega arith in
    let n13 : k ≡ 13 → ⊥ = omega arith in
    record {
      kind_low = l;
      kind_high = omega arith;
      first = rw (lt-ltb k 6 h) refl;
      second = rw (ne_eqb k 7 n7, ne_eqb k 12 n12, ne_eqb k 9 n9, ne_eqb k 13 n13) refl;
      name = record { used = inr refl; string = λ e. absurd (omega arith) };
    }

rows : (m : ℕ) → m < 7 → RowOk fixed_words m (row_at fixed_words (m + 1))
rows = each_below 7 (λ (m : ℕ). RowOk fixed_words m (row_at fixed_words (m + 1))) (
  record {
    kind_low = omega arith;
    kind_high = omega arith;
    first = record { low = omega arith; high = omega arith; kind = omega arith };
    second = refl;
    name = record { used = inl (omega arith); string = λ e. refl };
  },
  (
    record {
      kind_low = omega arith;
      kind_high = omega arith;
      first = record { low = omega arith; high = omega arith; kind = omega arith };
      second = refl;
      name = record { used = inr refl; string = λ e. absurd (omega arith) };
    },
    (
      plain 4 5 (omega arith) (omega arith),
      (
        plain 3 4 (omega arith) (omega arith),
        (plain 2 3 (omega arith) (omega arith), (plain 1 2 (omega arith) (omega arith), (plain 0 1 (omega arith) (omega arith), tt))),
      ),
    ),
  ),
)

-- A fixed row's number, by its kind
number_of : (kind : ℕ) → ℕ
number_of k = cond (eqb k 11) 7 k

number : (i : ℕ) → 1 ≤ i → i ≤ 7 → number_of (row_at fixed_words i).kind ≡ i
unfolding number_of
number i l h =
    each_below 8 (λ (i : ℕ). 1 ≤ i → number_of (row_at fixed_words i).kind ≡ i)
    (λ l. refl, (λ l. refl, (λ l. refl, (λ l. refl, (λ l. refl, (λ l. refl, (λ l. refl, (λ l. absurd (omega arith), tt)))))))) i (omega arith) l

sizes : Sizes fixed_words 7
unfolding unfolded up_to to_ir_type ir_word_size size_word
sizes n l h =
    each_below 8 (λ (n : ℕ). 1 ≤ n → size_word_at fixed_words n ≡ size_word (unfolded fixed_words n))
    (λ l. refl, (λ l. refl, (λ l. refl, (λ l. refl, (λ l. refl, (λ l. refl, (λ l. refl, (λ l. absurd (omega arith), tt)))))))) n (omega arith) l

fixed_words_lem : Table fixed_words 7
fixed_words_lem =
    record {
      room = omega arith;
      small = omega arith;
      seven = omega arith;
      fixed = λ i h. refl;
      rows = rows;
      distinct = λ i j li hi lj hj e. sym (number i li hi) ∙ ap (λ (r : Words). number_of r.kind) e ∙ number j lj hj;
      sizes = sizes;
    }

pub fixed_table : (w : List ℕ) → fixed_length ≤ length w → Kept fixed_words w 7 → Table w 7
fixed_table w room kept = kept_table fixed_words w 7 kept room fixed_words_lem

pub fixed_types_lem : (w : List ℕ) → Kept fixed_words w 7 → (t : Ty) → has_type w 7 t ≡ member t fixed_types
unfolding has_type member unfolded up_to
fixed_types_lem w kept t = kept_types fixed_words w 7 kept 7 (omega arith) t ∙ simp (or_assoc, or-false)

-- What rows 1 to 7 of a table are

module _ (w : List ℕ) (count : ℕ) (t : Table w count) where
  fixed_row : (n : ℕ) → n ≤ 7 → unfolded w n ≡ unfolded fixed_words n
  fixed_row = kept_unfolded fixed_words w 7 t.fixed

  pub fixed_is : (n : ℕ) → 1 ≤ n → n ≤ 7 → IsType w count n
  fixed_is n l h =
      let is : IsType fixed_words 7 n = record { low = l; high = h; kind = kinds n (omega arith) } in
      type_wider w 7 count n t.seven (kept_type fixed_words w 7 t.fixed 7 n (omega arith) is)
    where
      kinds : (n : ℕ) → n < 8 → (row_at fixed_words n).kind ≤ 11
      kinds =
          each_below 8 (λ (n : ℕ). (row_at fixed_words n).kind ≤ 11)
          (omega arith, (omega arith, (omega arith, (omega arith, (omega arith, (omega arith, (omega arith, (omega arith, tt))))))))

  pub unknown_row : unfolded w 1 ≡ unknown
  unfolding unfolded up_to
  unknown_row = fixed_row 1 (omega arith)

  pub void_row : unfolded w 2 ≡ void
  unfolding unfolded up_to
  void_row = fixed_row 2 (omega arith)

  pub bool_row_lem : unfolded w 3 ≡ bool
  unfolding unfolded up_to
  bool_row_lem = fixed_row 3 (omega arith)

  pub u16_row_lem : unfolded w 4 ≡ u16
  unfolding unfolded up_to
  u16_row_lem = fixed_row 4 (omega arith)

  pub i16_row : unfolded w 5 ≡ i16
  unfolding unfolded up_to
  i16_row = fixed_row 5 (omega arith)

  pub u16_pointer_row : unfolded w 6 ≡ pointer u16
  unfolding unfolded up_to
  u16_pointer_row = fixed_row 6 (omega arith)

  pub string_row : unfolded w 7 ≡ string
  unfolding unfolded up_to
  string_row = fixed_row 7 (omega arith)

-- The fixed words copied to the front of w
pub stored_front : (w front : List ℕ) → fixed_length ≤ length w → front ≡ fixed_words → FixedStored w (front ++ drop fixed_length w)
stored_front w front room e =
    let kept : Kept fixed_words (front ++ drop fixed_length w) 7 = λ k b. rw e (get_or-append fixed_words (drop fixed_length w) 0 k (omega arith)) in
    record {
      table = fixed_table (front ++ drop fixed_length w) (omega (arith, long)) kept;
      types = fixed_types_lem (front ++ drop fixed_length w) kept;
      long = long;
      past = λ i h.
          get_or-append_right front (drop fixed_length w) fixed_length i 0 fits h
          ∙ get_or-drop fixed_length w (i - fixed_length) 0
          ∙ (let same : fixed_length + (i - fixed_length) ≡ i = omega arith in ap (λ (n : ℕ). get_or w n 0) same);
    }
  where
    fits : length front ≡ fixed_length
    fits = ap length e

    long : length (front ++ drop fixed_length w) ≡ length w
    long = simp (length-append, length-drop) (omega (arith, fits))

-- The fixed words copied to the front of w, as far as i
pub record Copied (w : List ℕ) (i : ℕ) (w' : List ℕ) : Type 0 where
  pub long : length w' ≡ length w
  pub done : (k : ℕ) → k < i → get_or w' k 0 ≡ get_or fixed_words k 0
  pub past : (k : ℕ) → i ≤ k → get_or w' k 0 ≡ get_or w k 0

pub copied_none : (w : List ℕ) → Copied w 0 w
copied_none w = record { long = refl; done = below_none _; past = λ k h. refl }

module _ (w : List ℕ) (i : ℕ) (w' : List ℕ) (s : Copied w i w') where
  pub copied_more : i < length w' → Copied w (i + 1) (set w' i (get_or fixed_words i 0))
  copied_more l =
      record {
        long = length-set w' i (get_or fixed_words i 0) ∙ s.long;
        done =
            below_more _ i
            (λ k h. let ne : k ≡ i → ⊥ = omega arith in get_or-set_other w' i k (get_or fixed_words i 0) 0 ne ∙ s.done k h)
            (get_or-set_same w' i (get_or fixed_words i 0) 0 l);
        past = λ k h. let ne : k ≡ i → ⊥ = omega arith in get_or-set_other w' i k (get_or fixed_words i 0) 0 ne ∙ s.past k (omega arith);
      }

  pub copied_all : fixed_length ≤ length w → fixed_length ≤ i → i ≤ fixed_length → FixedStored w w'
  copied_all room l h =
      let kept : Kept fixed_words w' 7 = λ k b. s.done k (omega arith) in
      record {
        table = fixed_table w' (omega (arith, s.long)) kept;
        types = fixed_types_lem w' kept;
        long = s.long;
        past = λ k b. s.past k (omega arith);
      }
