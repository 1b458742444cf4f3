-- Laws of the search of a cast, for the turns of its two loops.
use Prim.Native.Nat.{ℕ, suc, ◌+◌, ◌^◌, ◌<◌}
use mathlib.Core.Path.{◌≡◌, refl, sym, ap, ◌∙◌}
use mathlib.Core.List.{List, [], ◌∷◌, ◌++◌, map}
use mathlib.Core.Bool.{Bool, true, false, cond, ◌||◌}
use native.Mathlib.Omega.{arith}
use borrow.Author.Tests.{eq-eqb, ne_eqb}
use Rattle.types.specs.Ty.{Ty, is, kind_of, first_of, distinct_kind}
use Rattle.types.specs.Table.{unfolded}
use Rattle.types.specs.Post.{TypePart}
use Rattle.relations.specs.Relations.{Pair, pair, strips, cast_pairs, cast_fits, some_fits}
use Rattle.relations.specs.TypeRows.{TwoTypes}
use Rattle.relations.proofs.CastLaws.{strips_list}
use Rattle.queries.specs.CastSearch.{pairs_tried, searched, cast_search}
use Rattle.queries.specs.declared.CastSearch.{CastSearch}
use Rattle.queries.proofs.PairLaws.{target_pairs, one_tried, source_tried, targets_few, few_aliases, pairs_fit}

abbrev pub found : (fits : Bool) → (pairs : ℕ) → CastSearch
found fits pairs = record { fits = fits; pairs = pairs }

-- What a search finds, with k pairs tried before it
abbrev pub after : ℕ → CastSearch → CastSearch
after k f = found f.fits (k + f.pairs)

pub after_none : (f : CastSearch) → after 0 f ≡ f
after_none f = let e : 0 + f.pairs ≡ f.pairs = omega arith in λ i. found f.fits (e i)

after_after : (k j : ℕ) (f : CastSearch) → after k (after j f) ≡ after (k + j) f
after_after k j f = let e : k + (j + f.pairs) ≡ k + j + f.pairs = omega arith in λ i. found f.fits (e i)

-- A search that ends at its first pair, after k with that pair counted
ends_here : (fits : Bool) (k : ℕ) (all : CastSearch) → after k (found fits 1) ≡ after 1 all → found fits k ≡ all
ends_here fits k all e =
    let f = ap (λ (x : CastSearch). x.fits) e in
    let p = ap (λ (x : CastSearch). x.pairs) e in
    let n : k ≡ all.pairs = omega arith in
    λ i. found (f i) (n i)

-- A turn over the strips of the target
targets_turn : (s t : Ty) (fits alias : Bool) → cast_fits (pair s t) ≡ fits → is distinct_kind t ≡ alias
    → searched (target_pairs s t) ≡ cond fits (found true 1) (cond alias (after 1 (searched (target_pairs s (first_of t)))) (found false 1))
unfolding some_fits pairs_tried
targets_turn s t fits alias f d = ap (λ (l : List Ty). searched (map (pair s) l)) (strips_list t) ∙ go fits alias f d
  where
    go : (fits alias : Bool) → cast_fits (pair s t) ≡ fits → is distinct_kind t ≡ alias
        → searched (map (pair s) (t ∷ cond (is distinct_kind t) (strips (first_of t)) []))
        ≡ cond fits (found true 1) (cond alias (after 1 (searched (target_pairs s (first_of t)))) (found false 1))
    go true alias f d = rw f
    go false true f d =
        let e : suc (pairs_tried (target_pairs s (first_of t))) ≡ 1 + pairs_tried (target_pairs s (first_of t)) = omega arith in
        rw (f, d) (λ i. found (some_fits (target_pairs s (first_of t))) (e i))
    go false false f d = rw (f, d)

-- Pairs and then more pairs
append_turn : (l m : List Pair) → searched (l ++ m) ≡ cond (some_fits l) (searched l) (after (pairs_tried l) (searched m))
unfolding some_fits pairs_tried
append_turn [] m = sym (after_none (searched m))
append_turn (p ∷ l) m = go (cast_fits p) (append_turn l m)
  where
    go : (b : Bool) → searched (l ++ m) ≡ cond (some_fits l) (searched l) (after (pairs_tried l) (searched m))
        → found (b || some_fits (l ++ m)) (suc (cond b 0 (pairs_tried (l ++ m))))
        ≡ cond (b || some_fits l) (found (b || some_fits l) (suc (cond b 0 (pairs_tried l)))) (after (suc (cond b 0 (pairs_tried l))) (searched m))
    go true e = refl
    go false e = ap (λ (x : CastSearch). found x.fits (suc x.pairs)) e ∙ rest (some_fits l) refl
      where
        rest : (c : Bool) → some_fits l ≡ c
            → found (cond c (searched l) (after (pairs_tried l) (searched m))).fits (suc (cond c (searched l) (after (pairs_tried l) (searched m))).pairs)
            ≡ cond c (found c (suc (pairs_tried l))) (after (suc (pairs_tried l)) (searched m))
        rest true q = λ i. found (q i) (suc (pairs_tried l))
        rest false q = let n : suc (pairs_tried l + pairs_tried m) ≡ suc (pairs_tried l) + pairs_tried m = omega arith in λ i. found (some_fits m) (n i)

-- A turn over the strips of the source
cast_turn : (s t : Ty) (alias : Bool) → is distinct_kind s ≡ alias
    → cast_search s t ≡ cond (some_fits (target_pairs s t)) (searched (target_pairs s t)) (after (pairs_tried (target_pairs s t)) (cond alias (cast_search (first_of s) t) (found false 0)))
unfolding cast_search cast_pairs some_fits pairs_tried
cast_turn s t alias d =
    ap (λ (l : List Ty). searched (cast_pairs l (strips t))) (strips_list s)
    ∙ append_turn (target_pairs s t) (cast_pairs (cond (is distinct_kind s) (strips (first_of s)) []) (strips t))
    ∙ ap (λ (f : CastSearch). cond (some_fits (target_pairs s t)) (searched (target_pairs s t)) (after (pairs_tried (target_pairs s t)) f)) (go alias d)
  where
    go : (alias : Bool) → is distinct_kind s ≡ alias
        → searched (cast_pairs (cond (is distinct_kind s) (strips (first_of s)) []) (strips t)) ≡ cond alias (searched (cast_pairs (strips (first_of s)) (strips t))) (found false 0)
    go true d = rw d
    go false d = rw d

-- The loop over the strips of the target, at row `to`, whose pair is the k-th
module _ (w : List ℕ) (count source target : ℕ) (two : TwoTypes w count source target) (to k : ℕ)
    (means : after k (searched (target_pairs (unfolded w source) (unfolded w to))) ≡ after 1 (searched (target_pairs (unfolded w source) (unfolded w target)))) where
  pub targets_room : k + 1 < 2 ^ 64
  targets_room =
      let one = one_tried (unfolded w source) (unfolded w to) in
      let e = ap (λ (x : CastSearch). x.pairs) means in
      let few = targets_few (unfolded w source) (unfolded w target) in
      let low = few_aliases w count two.table target two.second in
      omega arith

  module _ (fits : Bool) (fits_is : fits ≡ cast_fits (pair (unfolded w source) (unfolded w to))) where
    pub targets_hit : fits ≡ true → found true k ≡ searched (target_pairs (unfolded w source) (unfolded w target))
    targets_hit hit = ends_here true k _ (sym (ap (after k) (targets_turn (unfolded w source) (unfolded w to) true _ (sym fits_is ∙ hit) refl)) ∙ means)

    module _ (miss : fits ≡ false) (j : ℕ) (j-is : j ≡ kind_of (unfolded w to)) where
      pub targets_end : (j ≡ distinct_kind → ⊥) → found false k ≡ searched (target_pairs (unfolded w source) (unfolded w target))
      targets_end other =
          let last = ne_eqb (kind_of (unfolded w to)) distinct_kind (λ e. other (j-is ∙ e)) in
          ends_here false k _ (sym (ap (after k) (targets_turn (unfolded w source) (unfolded w to) false false (sym fits_is ∙ miss) last)) ∙ means)

      pub targets_on : j ≡ distinct_kind → (next : ℕ) → TypePart w count to (first_of (unfolded w to)) next
          → after (k + 1) (searched (target_pairs (unfolded w source) (unfolded w next))) ≡ after 1 (searched (target_pairs (unfolded w source) (unfolded w target)))
      targets_on alias next part =
          ap (λ (t : Ty). after (k + 1) (searched (target_pairs (unfolded w source) t))) part.type
          ∙ sym (after_after k 1 (searched (target_pairs (unfolded w source) (first_of (unfolded w to)))))
          ∙ sym (ap (after k) (targets_turn (unfolded w source) (unfolded w to) false true (sym fits_is ∙ miss) (eq-eqb (kind_of (unfolded w to)) distinct_kind (sym j-is ∙ alias))))
          ∙ means

-- The loop over the strips of the source, at row `from`, with k pairs tried before; f is what the target's strips give
module _ (w : List ℕ) (count source target : ℕ) (two : TwoTypes w count source target) (from k : ℕ)
    (means : after k (cast_search (unfolded w from) (unfolded w target)) ≡ cast_search (unfolded w source) (unfolded w target))
    (f : CastSearch) (f-is : f ≡ searched (target_pairs (unfolded w from) (unfolded w target))) where
  fits_is : f.fits ≡ some_fits (target_pairs (unfolded w from) (unfolded w target))
  fits_is = ap (λ (x : CastSearch). x.fits) f-is

  pairs_are : f.pairs ≡ pairs_tried (target_pairs (unfolded w from) (unfolded w target))
  pairs_are = ap (λ (x : CastSearch). x.pairs) f-is

  pub cast_room : k + f.pairs < 2 ^ 64
  cast_room =
      let part = source_tried (unfolded w from) (unfolded w target) in
      let e = ap (λ (x : CastSearch). x.pairs) means in
      let n = pairs_are in
      let all = pairs_fit w count two.table source target two.first two.second in
      omega arith

  pub cast_hit : f.fits ≡ true → found true (k + f.pairs) ≡ cast_search (unfolded w source) (unfolded w target)
  cast_hit hit =
      let fits = sym fits_is ∙ hit in
      (λ i. found (sym fits i) (k + pairs_are i)) ∙ sym (ap (after k) (cast_turn (unfolded w from) (unfolded w target) _ refl ∙ rw fits)) ∙ means

  module _ (miss : f.fits ≡ false) (j : ℕ) (j-is : j ≡ kind_of (unfolded w from)) where
    pub cast_end : (j ≡ distinct_kind → ⊥) → found false (k + f.pairs) ≡ cast_search (unfolded w source) (unfolded w target)
    cast_end other =
        let last = ne_eqb (kind_of (unfolded w from)) distinct_kind (λ e. other (j-is ∙ e)) in
        let n : k + f.pairs ≡ k + (pairs_tried (target_pairs (unfolded w from) (unfolded w target)) + 0) = omega (arith, pairs_are) in
        (λ i. found false (n i)) ∙ sym (ap (after k) (cast_turn (unfolded w from) (unfolded w target) false last ∙ rw (← fits_is, miss))) ∙ means

    pub cast_on : j ≡ distinct_kind → (next : ℕ) → TypePart w count from (first_of (unfolded w from)) next
        → after (k + f.pairs) (cast_search (unfolded w next) (unfolded w target)) ≡ cast_search (unfolded w source) (unfolded w target)
    cast_on alias next part =
        let rest = cast_search (first_of (unfolded w from)) (unfolded w target) in
        let more = eq-eqb (kind_of (unfolded w from)) distinct_kind (sym j-is ∙ alias) in
        ap (λ (t : Ty). after (k + f.pairs) (cast_search t (unfolded w target))) part.type
        ∙ ap (λ (n : ℕ). after (k + n) rest) pairs_are
        ∙ sym (after_after k (pairs_tried (target_pairs (unfolded w from) (unfolded w target))) rest)
        ∙ sym (ap (after k) (cast_turn (unfolded w from) (unfolded w target) true more ∙ rw (← fits_is, miss)))
        ∙ means
