-- How a cast is decided without a search over all pairs: definitions for the contracts of inner functions.
use Rattle.std.specs.Prelude.{Bool, cond, ◌&&◌, eqb}
use Rattle.types.specs.Ty.{Ty, end, node, is, member, desugar, distinct_kind}
use Rattle.relations.specs.Relations.{strips}

-- The last of the strips of a type
unfoldable pub last_strip : Ty → Ty
last_strip end = end
last_strip (node k a b s n) = cond (eqb k distinct_kind) (last_strip a) (node k a b s n)

-- What a type desugars to is a distinct alias among the strips of another
abbrev pub is_strip_of : (t top : Ty) → Bool
is_strip_of t top = is distinct_kind (desugar t) && member (desugar t) (strips top)
