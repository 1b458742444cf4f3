-- Assignable and castable (document 01, "Type rows"), on unfolded types.
use Rattle.std.specs.Prelude.{ℕ, Bool, false, cond, ◌&&◌, ◌||◌, List, [], ◌∷◌, ◌++◌, map, eqb}
use Rattle.types.specs.Ty.{Ty, end, node, is, kind_of, first_of, same, desugar, u16_kind, i16_kind, pointer_kind, array_kind}
use Rattle.types.specs.Ty.{alias_kind, distinct_kind}

-- Assignable (target, source): after desugaring both, equal; or both pointers, the source's pointee an array directly, its element
-- assignable to the target's pointee. The recursion goes down the target and strips its aliases on the way
unfoldable pub types_are_assignable : (target source : Ty) → Bool
types_are_assignable end source = same end (desugar source)
types_are_assignable (node k a b s n) source =
    cond (eqb k alias_kind) (types_are_assignable a source)
    (same (node k a b s n) (desugar source)
    || (eqb k pointer_kind && is pointer_kind (desugar source) && is array_kind (first_of (desugar source)) && types_are_assignable a (first_of (first_of (desugar source)))))

-- Castable (source, target), first the strips: a type with 0, 1, 2 .. distinct aliases stripped from its top
unfoldable pub strips : Ty → List Ty
strips end = end ∷ []
strips (node k a b s n) = node k a b s n ∷ cond (eqb k distinct_kind) (strips a) []

-- A pair to try: what the source and the target were stripped to
pub record Pair : Type 0 where
  pub source : Ty
  pub target : Ty

abbrev pub pair : (source target : Ty) → Pair
pair a b = record { source = a; target = b }

-- The pairs in the order of the search: the strips of the source, and for each of them the strips of the target
unfoldable pub cast_pairs : (sources targets : List Ty) → List Pair
cast_pairs [] targets = []
cast_pairs (a ∷ sources) targets = map (pair a) targets ++ cast_pairs sources targets

-- The kinds of the direct types with reinterpretation
abbrev pub is_integral_kind : (kind : ℕ) → Bool
is_integral_kind kind = eqb kind u16_kind || eqb kind i16_kind

-- Kinds that fit: two of those; two pointers; pointer and u16
abbrev pub cast_kinds : (source target : ℕ) → Bool
cast_kinds source target =
    is_integral_kind source && is_integral_kind target
    || eqb source pointer_kind && eqb target pointer_kind
    || eqb source pointer_kind && eqb target u16_kind
    || eqb source u16_kind && eqb target pointer_kind

-- A pair that fits: by its kinds, or equal after desugaring
abbrev pub cast_fits : Pair → Bool
cast_fits p = cast_kinds (kind_of p.source) (kind_of p.target) || same (desugar p.source) (desugar p.target)

-- Some pair must fit
unfoldable pub some_fits : List Pair → Bool
some_fits [] = false
some_fits (p ∷ pairs) = cast_fits p || some_fits pairs

unfoldable pub is_castable_to : (source target : Ty) → Bool
is_castable_to source target = some_fits (cast_pairs (strips source) (strips target))
