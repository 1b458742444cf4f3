-- What assigning and casting keep of a type (document 02, paper 5): the backend type, the words; and when assignable implies castable.
use Rattle.std.specs.Prelude.{ℕ, ◌≡◌, Bool, true, false, not, ◌&&◌, ◌||◌, ◌⊎◌, eqb}
use Rattle.std.proofs.Math.Option.{Option, none, some, map}
use Rattle.types.specs.Ty.{Ty, end, node, kind_of, unknown_kind, pointer_kind, alias_kind}
use Rattle.types.specs.WordSize.{IrType, to_ir_type, ir_word_size}
use Rattle.relations.specs.Relations.{types_are_assignable, is_castable_to}
use Rattle.relations.specs.WordSize.{word_size_of}
use Rattle.relations.specs.declared.WordSize.TheVariants.{Words}

-- A type contains an Unknown: it is one, or one of its parts contains one; what a pointer points to is no part here
unfoldable pub contains_unknown : Ty → Bool
contains_unknown end = false
contains_unknown (node k a b s n) = eqb k unknown_kind || (not (eqb k pointer_kind) && (contains_unknown a || contains_unknown b))

-- There is no backend type
abbrev pub is_missing : Option IrType → Bool
is_missing none = true
is_missing (some ir) = false

-- An Unknown that is contained prevents a backend type, and nothing else does
abbrev pub UnknownPrevents : Ty → Type 0
UnknownPrevents t = contains_unknown t ≡ is_missing (to_ir_type t)

-- Both have this backend type
pub record BothHave (t u : Ty) (ir : IrType) : Type 0 where
  pub first : to_ir_type t ≡ some ir
  pub second : to_ir_type u ≡ some ir

-- The type contains an Unknown that prevents a backend type
pub record Prevented (t : Ty) : Type 0 where
  pub unknown : contains_unknown t ≡ true
  pub missing : to_ir_type t ≡ none

-- Both have the same backend type, or both contain an Unknown that prevents one
abbrev pub SameBackend : (t u : Ty) → Type 0
SameBackend t u = ((ir : IrType) × BothHave t u ir) ⊎ (Prevented t × Prevented u)

-- How many words a type has, however many; none without a backend type
unfoldable pub exact_words : Ty → Option ℕ
exact_words t = map ir_word_size (to_ir_type t)

-- No transparent alias at its top
abbrev pub Plain : Ty → Type 0
Plain t = kind_of t ≡ alias_kind → ⊥

-- What holds of any two type rows of any rows that obey the rules
pub record Footprint (target source : Ty) : Type 0 where
  -- of each, an Unknown that is contained prevents a backend type, and nothing else does
  pub target_unknown : UnknownPrevents target
  pub source_unknown : UnknownPrevents source
  -- a source assignable to a target: both have the same backend type, or both contain an Unknown that prevents one
  pub assigned : types_are_assignable target source ≡ true → SameBackend target source
  -- a source castable to a target, its words known and not too large: the target's are the same number
  pub cast : is_castable_to source target ≡ true → (words : ℕ) → word_size_of source ≡ Words words → word_size_of target ≡ Words words
  -- assignable implies castable where neither type is a transparent alias at its top
  pub castable : Plain target → Plain source → types_are_assignable target source ≡ true → is_castable_to source target ≡ true
