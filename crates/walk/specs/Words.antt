-- The lent words that a step writes or reads: the bytes of a slot, and the working words of a name.
use Rattle.std.specs.Prelude.{ℕ, ◌+◌, ◌*◌, ◌/◌, ◌%◌, List, [], ◌∷◌, get_or}
use Rattle.std.proofs.lemmas.List.Edits.{sets}
use Rattle.record_bytes.specs.Bytes.{field_size, head_end}
use Rattle.meaning.specs.Context.{TypeMap, Context, no_types}
use Rattle.meaning.specs.Promise.{work_width}

-- A number as four bytes, least byte first
abbrev pub word_bytes : ℕ → List ℕ
word_bytes v = v % 256 ∷ v / 256 % 256 ∷ v / 256 / 256 % 256 ∷ v / 256 / 256 / 256 % 256 ∷ []

-- The slot of a record follows its head
abbrev pub slot_place : (at : ℕ) → ℕ
slot_place at = head_end at

abbrev pub slot_end : (at : ℕ) → ℕ
slot_end at = slot_place at + field_size

-- The output with a row number in the slot of the record at a place
abbrev pub slot_stored : (output : List ℕ) → (at v : ℕ) → List ℕ
slot_stored output at v = sets output (slot_place at) (word_bytes v)

-- Four working words a name: global, alias, local, argument
abbrev pub word_place : (name which : ℕ) → ℕ
word_place name which = work_width * name + which

-- The map that the word holds
abbrev pub map_at : Context → (which : ℕ) → TypeMap
map_at ctx which =
    get_or (ctx.in_module.globals ∷ ctx.in_module.type_aliases ∷ ctx.in_function.variables ∷ ctx.in_function.arguments ∷ []) which no_types
