-- The dearest casts: n distinct aliases over bool and m over u16, for each n and m whose rows fit the buffer.
use Prim.Native.Nat.{ℕ, zero, suc, ◌+◌, ◌*◌, ◌^◌, ◌≤◌, ◌<◌}
use mathlib.Core.Path.{◌≡◌, refl, sym, ap, ◌∙◌, subst}
use mathlib.Core.List.{List}
use mathlib.Core.Bool.{false}
use mathlib.Core.Logic.{◌⊎◌, inl, inr, ⊎_elim}
use native.Mathlib.Omega.{arith}
use lib.ListN.{length, drop, length-append, length-drop, get_or-append}
use Rattle.rows.proofs.Search.{last_or}
use Rattle.types.specs.Ty.{Ty, node, is, kind_of, same, desugar, bool, u16, distinct, distinct_kind}
use Rattle.types.specs.Table.{Words, words, row_width, row_at, build, fixed_count, fixed_length, fixed_words, with_fixed, unfolded, Table, RowOk, IsType, Extends}
use Rattle.types.specs.WordSize.{size_word, to_ir_type, ir_word_size}
use Rattle.types.specs.Post.{stored}
use Rattle.types.proofs.Laws.{unfolded_zero}
use Rattle.types.proofs.Query.{type_kind_lem}
use Rattle.types.proofs.Rows.{table_rows, points_to_last}
use Rattle.types.proofs.Sizes.{size_counted}
use Rattle.types.proofs.Append.{stored_row, added_stored}
use Rattle.types.proofs.Fixed.{each_below, fixed_table, fixed_is, bool_row_lem, u16_row_lem}
use Rattle.types.proofs.Grow.{kept_row, extends_refl, extends_trans, extends_unfolded, extends_type}
use Rattle.fallible.specs.Outcome.{Outcome, refused, accepted}
use Rattle.relations.specs.Relations.{pair, cast_fits, is_castable_to}
use Rattle.relations.specs.TypeRows.{TwoTypes}
use Rattle.relations.proofs.CastLaws.{target_fits, target_turn, source_turn}
use Rattle.queries.specs.CastSearch.{cast_search, distinct_aliases}
use Rattle.queries.specs.Entry.{Answers}
use Rattle.queries.specs.Dearest.{aliases, top_row, with_aliases, dearest_rows, dearest_count, dearest_source, dearest_target}
use Rattle.queries.specs.Dearest.{bool_row, u16_row, refused_after, Dearest}
use Rattle.queries.proofs.PairLaws.{pair_count}

-- No pair of strips of the two fits

apart : (n m : ℕ) → same (aliases n bool) (aliases m u16) ≡ false
unfolding aliases same
apart zero zero = refl
apart zero (suc m) = refl
apart (suc n) zero = refl
apart (suc n) (suc m) = rw (apart n m)

misfit : (n m : ℕ) → cast_fits (pair (aliases n bool) (aliases m u16)) ≡ false
unfolding aliases desugar same
misfit zero zero = refl
misfit zero (suc m) = refl
misfit (suc n) zero = refl
misfit (suc n) (suc m) = rw (apart n m)

no_target : (n m : ℕ) → target_fits (aliases n bool) (aliases m u16) ≡ false
unfolding aliases
no_target n zero = target_turn (aliases n bool) u16 ∙ rw (misfit n 0)
no_target n (suc m) = target_turn (aliases n bool) (aliases (suc m) u16) ∙ rw (misfit n (suc m), no_target n m)

no_cast : (n m : ℕ) → is_castable_to (aliases n bool) (aliases m u16) ≡ false
unfolding aliases
no_cast zero m = source_turn (aliases m u16) bool ∙ rw (no_target 0 m)
no_cast (suc n) m = source_turn (aliases m u16) (aliases (suc n) bool) ∙ rw (no_target (suc n) m, no_cast n m)

-- So all pairs are tried
count_aliases : (n : ℕ) (t : Ty) → distinct_aliases t ≡ 0 → distinct_aliases (aliases n t) ≡ n
unfolding aliases distinct_aliases
count_aliases zero t e = e
count_aliases (suc n) t e = ap suc (count_aliases n t e)

all_tried : (n m : ℕ) → cast_search (aliases n bool) (aliases m u16) ≡ refused_after ((n + 1) * (m + 1))
unfolding distinct_aliases
all_tried n m =
    let tried = pair_count (aliases n bool) (aliases m u16) in
    let fits = tried.answer ∙ no_cast n m in
    let source = count_aliases n bool refl in
    let target = count_aliases m u16 refl in
    let all = tried.refused (no_cast n m) ∙ (λ i. (source i + 1) * (target i + 1)) in
    λ i. record { fits = fits i; pairs = all i }

-- What is answered about two type rows is their value
one_answer : {A : Type 0} (w : List ℕ) (count m n : ℕ) (value : A) → TwoTypes w count m n → (o : Outcome A) → Answers w count m n value o → o ≡ accepted value
one_answer w count m n value two (accepted a) h = ap accepted h.1
one_answer w count m n value two (refused number place) h = absurd (h.0 two)

-- The rows keep the rules, one after the other

-- No row up to row c is a distinct alias, without a name, of row x
abbrev Unaliased : List ℕ → (c x : ℕ) → Type 0
Unaliased w c x = (i : ℕ) → 1 ≤ i → i ≤ c → row_at w i ≡ words distinct_kind x 0 0 → ⊥

alias_ok : (w : List ℕ) (c x : ℕ) → IsType w c x → RowOk w c (words distinct_kind x 0 0)
alias_ok w c x is =
    record {
      kind_low = omega arith;
      kind_high = omega arith;
      first = is;
      second = refl;
      name = record { used = inl (omega arith, omega arith); string = λ e. absurd (omega arith) };
    }

-- A distinct alias has the size of what it stands for
alias_size : (t : Ty) → kind_of t ≤ distinct_kind → size_word (distinct t 0) ≡ size_word t
unfolding to_ir_type
alias_size t h = size_counted (distinct t 0) (λ e. omega arith) ∙ sym (size_counted t (λ e. omega arith))

-- n aliases behind the c rows of a table, the first of row `base`: c' rows of w', the last of them `top`. Of no other of the c rows is there
-- a new alias
record Chained (w : List ℕ) (c base : ℕ) (w' : List ℕ) (c' top n : ℕ) : Type 0 where
  table : Table w' c'
  extends : Extends w c w' c'
  is : IsType w' c' top
  type : unfolded w' top ≡ aliases n (unfolded w base)
  size : size_word (unfolded w' top) ≡ 1
  new : Unaliased w' c' top
  others : (x : ℕ) → x ≤ c → (x ≡ base → ⊥) → Unaliased w c x → Unaliased w' c' x

module _ (w : List ℕ) (c base : ℕ) where
  -- One more, of row `top`
  chain_more : (n : ℕ) (w' : List ℕ) (c' top : ℕ) → Chained w c base w' c' top n → (top ≡ base) ⊎ (c < top) → c' + 1 < 2 ^ 32 → row_width * (c' + 1) ≤ length w
      → Chained w c base (stored w' c' (words distinct_kind top 0 0) 1) (c' + 1) (c' + 1) (suc n)
  unfolding aliases
  chain_more n w' c' top h place small room =
      let r = words distinct_kind top 0 0 in
      let w'' = stored w' c' r 1 in
      let space : row_width * c' + row_width ≤ length w' = omega (arith, h.extends.long) in
      let ok = alias_ok w' c' top h.is in
      let built : build r (unfolded w') ≡ distinct (unfolded w' top) 0 = ap (λ (t : Ty). node distinct_kind (unfolded w' top) t 0 0) (unfolded_zero w') in
      let size : 1 ≡ size_word (build r (unfolded w')) = sym (ap size_word built ∙ alias_size (unfolded w' top) (type_kind_lem w' c' h.table top h.is) ∙ h.size) in
      let added = added_stored w' c' r 1 space h.table ok size h.new small in
      let row = stored_row w' c' r 1 space in
      record {
        table = added.table;
        extends = extends_trans w w' w'' c c' (c' + 1) h.extends added.extends;
        is = record { low = added.low; high = added.high; kind = subst (λ (x : Words). x.kind ≤ distinct_kind) (sym row) (omega arith) };
        type = added.type ∙ built ∙ ap (λ (t : Ty). distinct t 0) h.type;
        size = ap size_word added.type ∙ sym size;
        new = points_to_last w'' (c' + 1) (table_rows added.table) (words distinct_kind (c' + 1) 0 0) refl;
        others = λ x low apart free i l u e.
            last_or c' i u ⊥
            (λ b. h.others x low apart free i l b (sym (kept_row w' w'' c' added.extends.kept i l b) ∙ e))
            (λ q.
            let first : top ≡ x = ap (λ (y : Words). y.first) (sym row ∙ ap (row_at w'') (sym q) ∙ e) in
            ⊎_elim (λ (z : top ≡ base). apart (sym first ∙ z)) (λ (z : c < top). omega arith) place);
      }

  module _ (table : Table w c) (is : IsType w c base) (new : Unaliased w c base) (size : size_word (unfolded w base) ≡ 1) where
    chained : (n : ℕ) → c + n < 2 ^ 32 → row_width * (c + n) ≤ length w → Chained w c base (with_aliases w c base n) (c + n) (top_row c base n) n
    unfolding with_aliases aliases
    chained zero small room =
        subst (λ (m : ℕ). Chained w c base w m base 0) (let e : c ≡ c + 0 = omega arith in e)
        (record { table = table; extends = extends_refl w c; is = is; type = refl; size = size; new = new; others = λ x low apart free. free })
    chained (suc n) small room =
        let next : c + n + 1 ≡ c + suc n = omega arith in
        subst (λ (m : ℕ). Chained w c base (stored (with_aliases w c base n) (c + n) (words distinct_kind (top_row c base n) 0 0) 1) m m (suc n)) next
        (chain_more n (with_aliases w c base n) (c + n) (top_row c base n) (chained n (omega arith) (omega arith)) (place n) (omega arith) (omega arith))
      where
        place : (n : ℕ) → (top_row c base n ≡ base) ⊎ (c < top_row c base n)
        place zero = inl refl
        place (suc n) = inr (omega arith)

-- The fixed rows in a buffer with room for them
module _ (w : List ℕ) (room : fixed_length ≤ length w) where
  fixed_length_lem : length (with_fixed w) ≡ length w
  fixed_length_lem = length-append fixed_words (drop fixed_length w) ∙ rw length-drop (omega arith)

  begun : Table (with_fixed w) fixed_count
  begun = fixed_table (with_fixed w) (omega (arith, fixed_length_lem)) (λ i h. get_or-append fixed_words (drop fixed_length w) 0 i h)

  -- String alone is an alias among them, and has a name
  unaliased : (x : ℕ) → Unaliased (with_fixed w) fixed_count x
  unaliased x i l u e =
      let k = ap (λ (r : Words). r.kind) e in
      let n = ap (λ (r : Words). r.name) e in
      each_below 8 (λ (i : ℕ). 1 ≤ i → (row_at (with_fixed w) i).kind ≡ distinct_kind → (row_at (with_fixed w) i).name ≡ 0 → ⊥)
      (λ l p q. omega arith, (λ l p q. omega arith, (λ l p q. omega arith, (λ l p q. omega arith, (λ l p q. omega arith, (λ l p q. omega arith, (λ l p q. omega arith, (λ l p q. omega arith, tt)))))))) i (omega arith) l k n

-- For each n and m whose rows fit the buffer, whatever it holds, and whose count is a u32
pub dearest : (w : List ℕ) (n m : ℕ) → row_width * dearest_count n m ≤ length w → dearest_count n m < 2 ^ 32
    → Dearest (dearest_rows w n m) n m (dearest_source n) (dearest_target n m)
unfolding distinct_aliases size_word to_ir_type ir_word_size
dearest w n m room small =
    let space : fixed_length ≤ length w = omega arith in
    let w₀ = with_fixed w in
    let table = begun w space in
    let long = fixed_length_lem w space in
    let of_bool = fixed_is w₀ fixed_count table bool_row (omega arith) (omega arith) in
    let first =
    chained w₀ fixed_count bool_row table of_bool (unaliased w space bool_row) (ap size_word (bool_row_lem w₀ fixed_count table)) n (omega arith) (omega arith) in
    let w₁ = with_aliases w₀ fixed_count bool_row n in
    let c₁ = fixed_count + n in
    let of_u16_lem = fixed_is w₁ c₁ first.table u16_row (omega arith) (omega arith) in
    let new = first.others u16_row (omega arith) (λ z. omega arith) (unaliased w space u16_row) in
    let second = chained w₁ c₁ u16_row first.table of_u16_lem new (ap size_word (u16_row_lem w₁ c₁ first.table)) m (omega arith) (omega (arith, first.extends.long)) in
    let w₂ = dearest_rows w n m in
    let source = extends_type w₁ w₂ c₁ (c₁ + m) second.extends (dearest_source n) first.is in
    let source_type =
    extends_unfolded w₁ w₂ c₁ (c₁ + m) second.extends (dearest_source n) first.is.high ∙ first.type ∙ ap (aliases n) (bool_row_lem w₀ fixed_count table) in
    let target_type = second.type ∙ ap (aliases m) (u16_row_lem w₁ c₁ first.table) in
    let two : TwoTypes w₂ (dearest_count n m) (dearest_source n) (dearest_target n m) = record { table = second.table; first = source; second = second.is } in
    let search = (λ i. cast_search (source_type i) (target_type i)) ∙ all_tried n m in
    record {
      types = two;
      source_type = source_type;
      target_type = target_type;
      source_aliases = ap distinct_aliases source_type ∙ count_aliases n bool refl;
      target_aliases = ap distinct_aliases target_type ∙ count_aliases m u16 refl;
      search = search;
      answered = λ o h. one_answer w₂ (c₁ + m) (dearest_source n) (dearest_target n m) _ two o h ∙ ap accepted search;
    }
