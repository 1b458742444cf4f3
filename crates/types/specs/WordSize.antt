-- The words of a type (document 01, "Type rows", Words), exact whole numbers: `word_size` of `to_ir_type`. The fifth word of a row
-- (document 02, paper 3) follows from them.
use Rattle.std.specs.Prelude.{ℕ, ◌+◌, ◌*◌, cond, [], ◌∷◌, eqb, get_or}
use Rattle.std.proofs.Math.Option.{Option, none, some, map}
use Rattle.size_words.specs.SizeWords.{unknown_word, capped}
use Rattle.types.specs.Ty.{Ty, end, node, argument_kind}

-- A type of the backend (`ir::Type`); `more` is a list of them, `no_more` its end
pub data IrType : Type 0 where
  void boolean unsigned signed pointer : IrType
  array : (element : IrType) → (size : ℕ) → IrType
  struct : (fields : IrType) → IrType
  function : (returned arguments : IrType) → IrType
  no_more : IrType
  more : IrType → (rest : IrType) → IrType

-- What either part lacks, both together lack
abbrev pub join : (IrType → IrType → IrType) → Option IrType → Option IrType → Option IrType
join f none b = none
join f (some s) none = none
join f (some s) (some t) = some (f s t)

-- By the kind, from the two parts and the size: no row, Unknown, void, bool, u16, i16, pointer, array, struct, function, alias,
-- distinct alias, field cell, argument cell
abbrev pub ir_type_of : (kind : ℕ) → (first second : Option IrType) → (size : ℕ) → Option IrType
ir_type_of k a b s =
    get_or
    (none
    ∷ none
    ∷ some void
    ∷ some boolean
    ∷ some unsigned
    ∷ some signed
    ∷ some pointer
    ∷ map (λ t. array t s) a
    ∷ map struct a
    ∷ join function a b
    ∷ a
    ∷ a
    ∷ join more a b
    ∷ join more a b
    ∷ []) k none

-- `to_ir_type`: none where there is an Unknown anywhere but behind a pointer, function parts included
unfoldable pub to_ir_type : Ty → Option IrType
to_ir_type end = some no_more
to_ir_type (node k a b s n) = ir_type_of k (to_ir_type a) (to_ir_type b) s

-- `word_size`: void 0; u16, i16, bool, pointer, function 1; array size × element; struct the sum
unfoldable pub ir_word_size : IrType → ℕ
ir_word_size void = 0
ir_word_size boolean = 1
ir_word_size unsigned = 1
ir_word_size signed = 1
ir_word_size pointer = 1
ir_word_size (array t size) = size * ir_word_size t
ir_word_size (struct fields) = ir_word_size fields
ir_word_size (function returned arguments) = 1
ir_word_size no_more = 0
ir_word_size (more t rest) = ir_word_size t + ir_word_size rest

-- The size of a type: its words, 65,536 for too large, 65,537 for Unknown inside
abbrev pub type_word : Option IrType → ℕ
type_word none = unknown_word
type_word (some t) = capped (ir_word_size t)

-- In an argument cell only the Unknown counts
abbrev pub argument_word : Option IrType → ℕ
argument_word none = unknown_word
argument_word (some t) = 0

-- The fifth word of a row that unfolds to t: its type's size; of a field cell, its type's and its rest's together; of an argument cell,
-- 0, or 65,537 if it or its rest has Unknown inside
unfoldable pub size_word : Ty → ℕ
size_word end = 0
size_word (node k a b s n) = cond (eqb k argument_kind) (argument_word (to_ir_type (node k a b s n))) (type_word (to_ir_type (node k a b s n)))
