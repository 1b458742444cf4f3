-- The search of a cast with its count (document 02, paper 11).
use Rattle.std.specs.Prelude.{ℕ, suc, cond, List, [], ◌∷◌, eqb}
use Rattle.types.specs.Ty.{Ty, end, node, distinct_kind}
use Rattle.relations.specs.Relations.{Pair, strips, cast_pairs, cast_fits, some_fits}
use Rattle.queries.specs.declared.CastSearch.{CastSearch}

-- How many of some pairs are tried, in their order, ending at the first that fits
unfoldable pub pairs_tried : List Pair → ℕ
pairs_tried [] = 0
pairs_tried (p ∷ pairs) = suc (cond (cast_fits p) 0 (pairs_tried pairs))

-- What a search over pairs finds: whether one fits, and how many were tried
abbrev pub searched : List Pair → CastSearch
searched pairs = record { fits = some_fits pairs; pairs = pairs_tried pairs }

-- The search of a cast: source strips from 0, and for each of them target strips from 0
unfoldable pub cast_search : (source target : Ty) → CastSearch
cast_search source target = searched (cast_pairs (strips source) (strips target))

-- How many distinct aliases a type has at its top
unfoldable pub distinct_aliases : Ty → ℕ
distinct_aliases end = 0
distinct_aliases (node k a b s n) = cond (eqb k distinct_kind) (suc (distinct_aliases a)) 0
