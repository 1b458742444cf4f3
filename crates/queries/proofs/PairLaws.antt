-- How many pairs a cast tries: at most all, and all if none fits; the number fits 64 bits.
use Prim.Native.Nat.{ℕ, zero, suc, ◌+◌, ◌-◌, ◌*◌, ◌^◌, ◌≤◌, ◌<◌}
use mathlib.Core.Path.{◌≡◌, refl, sym, ap, ◌∙◌, subst}
use mathlib.Core.List.{List, [], ◌∷◌, ◌++◌, map}
use mathlib.Core.Bool.{Bool, true, false, cond, ◌||◌, true≢false}
use native.Mathlib.Omega.{arith}
use native.Mathlib.Nat.{mul-le-mul, zero-mul, suc-mul, add_comm}
use native.Mathlib.Numerals.{add-one}
use borrow.Author.Tests.{eqb-true}
use lib.Dec.{eqb}
use lib.ListN.{length, take, length-append, length-map}
use Rattle.types.specs.Ty.{Ty, end, node, is, first_of, distinct_kind}
use Rattle.types.specs.Table.{row_at, unfolded, first_part, PartOk, Table, IsType}
use Rattle.types.proofs.Laws.{unfolded_row, row_ok, first_lower}
use Rattle.relations.specs.Relations.{Pair, pair, strips, cast_pairs, cast_fits, some_fits, is_castable_to}
use Rattle.relations.proofs.CastLaws.{strips_list}
use Rattle.queries.specs.CastSearch.{pairs_tried, cast_search, distinct_aliases}
use Rattle.queries.specs.Dearest.{all_pairs, PairCount}

-- The last pair that is tried is the first that fits
none_before : (l : List Pair) → some_fits (take (pairs_tried l - 1) l) ≡ false
unfolding pairs_tried some_fits
none_before [] = refl
none_before (p ∷ l) = go (cast_fits p) refl (pairs_tried l) (none_before l)
  where
    go : (b : Bool) → cast_fits p ≡ b → (k : ℕ) → some_fits (take (k - 1) l) ≡ false → some_fits (take (suc (cond (cast_fits p) 0 k) - 1) (p ∷ l)) ≡ false
    go true q k rest = rw q
    go false q zero rest = rw q
    go false q (suc k) rest =
        let here : suc (suc k) - 1 ≡ suc k = omega arith in
        let next : k ≡ suc k - 1 = omega arith in
        rw q (ap (λ (x : ℕ). some_fits (take x (p ∷ l))) here ∙ rw q (ap (λ (x : ℕ). some_fits (take x l)) next ∙ rest))

fits_there : (l : List Pair) → some_fits l ≡ true → some_fits (take (pairs_tried l) l) ≡ true
unfolding pairs_tried some_fits
fits_there [] e = e
fits_there (p ∷ l) e = go (cast_fits p) refl (fits_there l)
  where
    go : (b : Bool) → cast_fits p ≡ b → (some_fits l ≡ true → some_fits (take (pairs_tried l) l) ≡ true) → (cast_fits p || some_fits (take (cond (cast_fits p) 0 (pairs_tried l)) l)) ≡ true
    go true q rest = rw q
    go false q rest = rw q (rest (rw q at e))

-- How many pairs there are
strips_length : (t : Ty) → length (strips t) ≡ suc (distinct_aliases t)
unfolding strips distinct_aliases
strips_length end = refl
strips_length (node k a b s n) = go (eqb k distinct_kind) (strips_length a)
  where
    go : (c : Bool) → length (strips a) ≡ suc (distinct_aliases a) → suc (length (cond c (strips a) [])) ≡ suc (cond c (suc (distinct_aliases a)) 0)
    go true e = ap suc e
    go false e = refl

-- The pairs of a source as it stands
abbrev pub target_pairs : (source target : Ty) → List Pair
target_pairs source target = map (pair source) (strips target)

pairs_length : (l m : List Ty) → length (cast_pairs l m) ≡ length l * length m
unfolding cast_pairs
pairs_length [] m = sym (zero-mul (length m))
pairs_length (s ∷ l) m = length-append (map (pair s) m) (cast_pairs l m) ∙ rw (length-map m (pair s), pairs_length l m, suc-mul) (add_comm (length m) (length l * length m))

-- At most all of them are tried, and all if none fits
tried_few : (l : List Pair) → pairs_tried l ≤ length l
unfolding pairs_tried
tried_few [] = omega arith
tried_few (p ∷ l) = go (cast_fits p) (tried_few l)
  where
    go : (b : Bool) → pairs_tried l ≤ length l → suc (cond b 0 (pairs_tried l)) ≤ suc (length l)
    go true h = omega arith
    go false h = omega arith

tried_all : (l : List Pair) → some_fits l ≡ false → pairs_tried l ≡ length l
unfolding pairs_tried some_fits
tried_all [] e = refl
tried_all (p ∷ l) e = go (cast_fits p) refl (tried_all l)
  where
    go : (b : Bool) → cast_fits p ≡ b → (some_fits l ≡ false → pairs_tried l ≡ length l) → suc (cond (cast_fits p) 0 (pairs_tried l)) ≡ suc (length l)
    go true q rest = absurd (true≢false (sym (rw q) ∙ e))
    go false q rest = rw q (ap suc (rest (rw q at e)))

tried_first : (l m : List Pair) → pairs_tried l ≤ pairs_tried (l ++ m)
unfolding pairs_tried
tried_first [] m = omega arith
tried_first (p ∷ l) m = go (cast_fits p) (tried_first l m)
  where
    go : (b : Bool) → pairs_tried l ≤ pairs_tried (l ++ m) → suc (cond b 0 (pairs_tried l)) ≤ suc (cond b 0 (pairs_tried (l ++ m)))
    go true h = omega arith
    go false h = omega arith

module _ (s t : Ty) where
  pub one_tried : 1 ≤ pairs_tried (target_pairs s t)
  unfolding pairs_tried
  one_tried = subst (λ (l : List Ty). 1 ≤ pairs_tried (map (pair s) l)) (sym (strips_list t)) (omega arith)

  -- The pairs of the source as it stands are the first of the cast
  pub source_tried : pairs_tried (target_pairs s t) ≤ (cast_search s t).pairs
  unfolding cast_search cast_pairs
  source_tried =
      subst (λ (l : List Ty). pairs_tried (target_pairs s t) ≤ pairs_tried (cast_pairs l (strips t))) (sym (strips_list s))
      (tried_first (target_pairs s t) (cast_pairs (cond (is distinct_kind s) (strips (first_of s)) []) (strips t)))

  pub targets_few : pairs_tried (target_pairs s t) ≤ distinct_aliases t + 1
  targets_few =
      let few = tried_few (target_pairs s t) in
      let long = length-map (strips t) (pair s) ∙ strips_length t in
      omega arith

  all_length : length (cast_pairs (strips s) (strips t)) ≡ all_pairs s t
  all_length = pairs_length (strips s) (strips t) ∙ rw (strips_length s, strips_length t, add-one, add-one)

  pub pair_count : PairCount s t
  unfolding cast_search is_castable_to
  pair_count =
      record {
        answer = refl;
        before = none_before (cast_pairs (strips s) (strips t));
        first = fits_there (cast_pairs (strips s) (strips t));
        some = let one = one_tried in let more = source_tried in omega arith;
        few = let few = tried_few (cast_pairs (strips s) (strips t)) in let all = all_length in omega arith;
        refused = λ e. tried_all (cast_pairs (strips s) (strips t)) e ∙ all_length;
      }

-- A row has fewer distinct aliases at its top than its number, so the pairs of two rows are fewer than 2^64
module _ (w : List ℕ) (count : ℕ) (table : Table w count) where
  aliases_step : (n : ℕ) → 1 ≤ n → n ≤ count → ((i : ℕ) → 1 ≤ i → i < n → distinct_aliases (unfolded w i) < i) → distinct_aliases (unfolded w n) < n
  unfolding distinct_aliases
  aliases_step n l h lower =
      subst (λ (t : Ty). distinct_aliases t < n) (sym (unfolded_row w count table n l h)) (go (eqb (row_at w n).kind distinct_kind) refl)
    where
      go : (b : Bool) → eqb (row_at w n).kind distinct_kind ≡ b → cond b (suc (distinct_aliases (unfolded w (row_at w n).first))) 0 < n
      go true e =
          let k : (row_at w n).kind ≡ distinct_kind = eqb-true (row_at w n).kind distinct_kind e in
          let part = subst (λ (x : ℕ). PartOk w (n - 1) (first_part x) (row_at w n).first) k (row_ok w count table n l h).first in
          let f = first_lower w count table n l h in
          let d = lower (row_at w n).first part.low f in
          omega arith
      go false e = omega arith

  aliases_below : (b n : ℕ) → n < b → 1 ≤ n → n ≤ count → distinct_aliases (unfolded w n) < n
  aliases_below zero n h l u = absurd (omega arith)
  aliases_below (suc b) n h l u = aliases_step n l u (λ i li hi. aliases_below b i (omega arith) li (omega arith))

  pub few_aliases : (n : ℕ) → IsType w count n → distinct_aliases (unfolded w n) + 1 ≤ 2 ^ 32 - 1
  few_aliases n is = let d = aliases_below (suc n) n (omega arith) is.low is.high in let c = table.small in let u = is.high in omega arith

  pub pairs_fit : (source target : ℕ) → IsType w count source → IsType w count target → (cast_search (unfolded w source) (unfolded w target)).pairs < 2 ^ 64
  pairs_fit source target s t =
      let few = (pair_count (unfolded w source) (unfolded w target)).few in
      let most = mul-le-mul (few_aliases source s) (few_aliases target t) in
      omega arith
