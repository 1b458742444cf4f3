-- Laws of castable types: the search over pairs of strips, turn by turn, and the test of a pair.
use Prim.Native.Nat.{ℕ, ◌+◌}
use mathlib.Core.Path.{◌≡◌, refl, sym, ap, ◌∙◌}
use mathlib.Core.List.{List, [], ◌∷◌, ◌++◌, map}
use mathlib.Core.Bool.{Bool, true, false, cond, ◌&&◌, ◌||◌, or_assoc, or-false, or-true, and-false}
use native.Mathlib.Omega.{arith}
use borrow.Author.Tests.{eqb-true, eqb-false}
use lib.Dec.{eqb}
use Rattle.types.specs.Ty.{Ty, end, node, is, kind_of, first_of, same, desugar, distinct_kind}
use Rattle.types.specs.Table.{Table, unfolded}
use Rattle.types.specs.Post.{TypePart}
use Rattle.relations.specs.Relations.{Pair, pair, strips, cast_pairs, cast_kinds, cast_fits, some_fits, is_castable_to}
use Rattle.relations.specs.TypeRows.{TwoTypes}
use Rattle.types.proofs.Laws.{injective, same_refl, same_false}
use Rattle.types.proofs.Query.{desugar_other}

fits_append : (l m : List Pair) → some_fits (l ++ m) ≡ (some_fits l || some_fits m)
unfolding some_fits
fits_append [] m = refl
fits_append (p ∷ l) m = rw (fits_append l m) (sym (or_assoc (cast_fits p) (some_fits l) (some_fits m)))

-- The strips of a type: the type itself, then, under a distinct alias, the strips of what it stands for
pub strips_list : (t : Ty) → strips t ≡ t ∷ cond (is distinct_kind t) (strips (first_of t)) []
unfolding strips
strips_list end = refl
strips_list (node k a b s n) = refl

-- A search over them
module _ (f : List Ty → Bool) (p : Ty → Bool) (none_left : f [] ≡ false) (one_more : (t : Ty) (l : List Ty) → f (t ∷ l) ≡ (p t || f l)) where
  pub strips_turn : (t : Ty) → f (strips t) ≡ (p t || (is distinct_kind t && f (strips (first_of t))))
  strips_turn t = ap f (strips_list t) ∙ one_more t _ ∙ ap (p t ||◌) (go (is distinct_kind t))
    where
      go : (c : Bool) → f (cond c (strips (first_of t)) []) ≡ (c && f (strips (first_of t)))
      go true = refl
      go false = none_left

-- The search over the strips of the target, and the search over those of the source
abbrev pub target_fits : (source target : Ty) → Bool
target_fits source target = some_fits (map (pair source) (strips target))

pub target_turn : (source t : Ty) → target_fits source t ≡ (cast_fits (pair source t) || (is distinct_kind t && target_fits source (first_of t)))
unfolding some_fits
target_turn source = strips_turn (λ l. some_fits (map (pair source) l)) (λ t. cast_fits (pair source t)) refl (λ t l. refl)

pub source_turn : (target t : Ty) → is_castable_to t target ≡ (target_fits t target || (is distinct_kind t && is_castable_to (first_of t) target))
unfolding some_fits cast_pairs is_castable_to
source_turn target =
    strips_turn (λ l. some_fits (cast_pairs l (strips target))) (λ t. target_fits t target) refl (λ t l. fits_append (map (pair t) (strips target)) (cast_pairs l (strips target)))

-- A distinct alias fits no type by its kind, on either side: only what desugars to it
source_kinds : (k : ℕ) → cast_kinds distinct_kind k ≡ false
source_kinds k = simp or-false

target_kinds : (j : ℕ) → cast_kinds j distinct_kind ≡ false
target_kinds j = simp (and-false, or-false)

pub fits_distinct_source : (s t : Ty) → kind_of s ≡ distinct_kind → cast_fits (pair s t) ≡ same s (desugar t)
fits_distinct_source s t e =
    let kinds : cast_kinds (kind_of s) (kind_of t) ≡ false = ap (λ (k : ℕ). cast_kinds k (kind_of t)) e ∙ source_kinds (kind_of t) in
    let plain : desugar s ≡ s = desugar_other s (λ h. omega arith) in
    λ i. kinds i || same (plain i) (desugar t)

pub fits_distinct_target : (s t : Ty) → kind_of t ≡ distinct_kind → cast_fits (pair s t) ≡ same (desugar s) t
fits_distinct_target s t e =
    let kinds : cast_kinds (kind_of s) (kind_of t) ≡ false = ap (cast_kinds (kind_of s)) e ∙ target_kinds (kind_of s) in
    let plain : desugar t ≡ t = desugar_other t (λ h. omega arith) in
    λ i. kinds i || same (desugar s) (plain i)

-- A type fits with itself
pub fits_itself : (t : Ty) → cast_fits (pair t t) ≡ true
fits_itself t = rw (same_refl (desugar t)) (or-true (cast_kinds (kind_of t) (kind_of t)))

-- Rows are equal where their types are
pub same_rows : (w : List ℕ) (c i j : ℕ) → TwoTypes w c i j → eqb i j ≡ same (unfolded w i) (unfolded w j)
same_rows w c i j two = go (eqb i j) refl
  where
    go : (b : Bool) → eqb i j ≡ b → eqb i j ≡ same (unfolded w i) (unfolded w j)
    go true q = q ∙ sym (ap (λ (n : ℕ). same (unfolded w i) (unfolded w n)) (sym (eqb-true i j q)) ∙ same_refl (unfolded w i))
    go false q = q ∙ sym (same_false (unfolded w i) (unfolded w j) (λ z. eqb-false i j q (injective w c two.table i j two.first.high two.second.high z)))

-- A pair that does not fit by its kinds, by the rows that its two types desugar to
module _ (w : List ℕ) (count : ℕ) (table : Table w count) (source target j k : ℕ) (j-is : j ≡ kind_of (unfolded w source)) (k-is : k ≡ kind_of (unfolded w target)) (b : Bool) (tested : b ≡ cast_kinds j k) where
  pub fits_desugared : b ≡ false → (from to : ℕ) → TypePart w count (source + 1) (desugar (unfolded w source)) from → TypePart w count (target + 1) (desugar (unfolded w target)) to
      → eqb from to ≡ cast_fits (pair (unfolded w source) (unfolded w target))
  fits_desugared miss from to s t =
      rw (← j-is, ← k-is, ← tested, miss, ← s.type, ← t.type) (same_rows w count from to (record { table = table; first = s.is; second = t.is }))
