-- The dearest cast (document 02, paper 11): how many pairs a cast tries at most, and rows whose cast tries that many.
use Rattle.std.specs.Prelude.{ℕ, zero, suc, ◌+◌, ◌-◌, ◌*◌, ◌≤◌, ◌≡◌, true, false, List, take}
use Rattle.types.specs.Ty.{Ty, bool, u16, distinct, distinct_kind}
use Rattle.types.specs.Table.{words, fixed_count, with_fixed, unfolded}
use Rattle.types.specs.Post.{stored}
use Rattle.relations.specs.Relations.{Pair, strips, cast_pairs, some_fits, is_castable_to}
use Rattle.relations.specs.TypeRows.{TwoTypes}
use Rattle.fallible.specs.Outcome.{Outcome, accepted}
use Rattle.queries.specs.CastSearch.{cast_search, distinct_aliases}
use Rattle.queries.specs.Entry.{Answers}
use Rattle.queries.specs.declared.CastSearch.{CastSearch}

-- (n + 1) × (m + 1), with n distinct aliases at the top of the source and m at the target's
abbrev pub all_pairs : (source target : Ty) → ℕ
all_pairs source target = (distinct_aliases source + 1) * (distinct_aliases target + 1)

-- The pairs in the order of the search
abbrev pub in_order : (source target : Ty) → List Pair
in_order source target = cast_pairs (strips source) (strips target)

-- What holds of the search for any two types, so for any two type rows of any rows that obey the rules
pub record PairCount (source target : Ty) : Type 0 where
  -- the answer is document 01's
  pub answer : (cast_search source target).fits ≡ is_castable_to source target
  -- the count is the place, from 1 on, of the first pair that fits: none before it does, and it does if any does
  pub before : some_fits (take ((cast_search source target).pairs - 1) (in_order source target)) ≡ false
  pub first : is_castable_to source target ≡ true → some_fits (take (cast_search source target).pairs (in_order source target)) ≡ true
  -- at least one pair is tried, and at most (n + 1) × (m + 1)
  pub some : 1 ≤ (cast_search source target).pairs
  pub few : (cast_search source target).pairs ≤ all_pairs source target
  -- a refused cast tries exactly that many
  pub refused : is_castable_to source target ≡ false → (cast_search source target).pairs ≡ all_pairs source target

-- n distinct aliases over a type
unfoldable pub aliases : (n : ℕ) → Ty → Ty
aliases zero t = t
aliases (suc n) t = distinct (aliases n t) 0

-- The row of the last of n rows behind `count` rows, or `base` if there are none
abbrev pub top_row : (count base n : ℕ) → ℕ
top_row count base zero = base
top_row count base (suc n) = count + suc n

-- w with n distinct aliases behind its first `count` rows, the first of row `base`, each other of the row before; each has one word
unfoldable pub with_aliases : List ℕ → (count base n : ℕ) → List ℕ
with_aliases w count base zero = w
with_aliases w count base (suc n) = stored (with_aliases w count base n) (count + n) (words distinct_kind (top_row count base n) 0 0) 1

-- bool and u16 among the fixed rows
abbrev pub bool_row : ℕ
bool_row = 3

abbrev pub u16_row : ℕ
u16_row = 4

-- w with the fixed rows, n distinct aliases over bool and m over u16; how many rows these are, and the last of either
abbrev pub dearest_rows : List ℕ → (n m : ℕ) → List ℕ
dearest_rows w n m = with_aliases (with_aliases (with_fixed w) fixed_count bool_row n) (fixed_count + n) u16_row m

abbrev pub dearest_count : (n m : ℕ) → ℕ
dearest_count n m = fixed_count + n + m

abbrev pub dearest_source : (n : ℕ) → ℕ
dearest_source n = top_row fixed_count bool_row n

abbrev pub dearest_target : (n m : ℕ) → ℕ
dearest_target n m = top_row (fixed_count + n) u16_row m

-- No pair fits, of so many that were tried
abbrev pub refused_after : (pairs : ℕ) → CastSearch
refused_after pairs = record { fits = false; pairs = pairs }

-- What w, with n aliases over bool up to row `source` and m over u16 up to row `target`, shows
pub record Dearest (w : List ℕ) (n m source target : ℕ) : Type 0 where
  pub types : TwoTypes w (dearest_count n m) source target
  pub source_type : unfolded w source ≡ aliases n bool
  pub target_type : unfolded w target ≡ aliases m u16
  pub source_aliases : distinct_aliases (unfolded w source) ≡ n
  pub target_aliases : distinct_aliases (unfolded w target) ≡ m
  -- the cast is refused, after as many pairs as there can be
  pub search : cast_search (unfolded w source) (unfolded w target) ≡ refused_after ((n + 1) * (m + 1))
  -- so whatever keeps the promise of `castable` answers
  pub answered : (o : Outcome CastSearch) → Answers w (dearest_count n m) source target (cast_search (unfolded w source) (unfolded w target)) o
      → o ≡ accepted (refused_after ((n + 1) * (m + 1)))
