-- `Display` of a type (type_check.rs, `Type`; ir/mod.rs for the direct types), as bytes.
use Rattle.std.specs.Prelude.{ℕ, Bool, true, false, cond, List, [], ◌++◌, eqb}
use Rattle.types.specs.Ty.{Ty, end, node, unknown_kind, void_kind, bool_kind, u16_kind, i16_kind, pointer_kind, array_kind}
use Rattle.types.specs.Ty.{struct_kind, function_kind, alias_kind, distinct_kind, field_kind}
use Rattle.text.specs.Text.{ascii, decimal}

-- The bytes of each name, by its number
abbrev pub NameTexts : Type 0
NameTexts = (name : ℕ) → List ℕ

-- No cell follows
abbrev pub is_end : Ty → Bool
is_end end = true
is_end (node k a b s n) = false

-- `join(", ")`: what follows a member of a list, where `rest` is the text of the members after it
abbrev pub joined : (last : Bool) → (rest : List ℕ) → List ℕ
joined true rest = []
joined false rest = ascii ", " ++ rest

-- The text of a type by its kind, from its name, its size and the texts of its first and second part. A struct's first part is its fields,
-- a function's second its arguments; a field and an argument are followed by the others of their list. An alias prints what it is for, a
-- distinct alias its name alone. A struct of no fields has two spaces between its braces
abbrev pub text_of : (kind : ℕ) → (name : List ℕ) → (size : ℕ) → (first second : List ℕ) → (last : Bool) → List ℕ
text_of k name size first second last =
    cond (eqb k unknown_kind) (ascii "<unknown>")
    (cond (eqb k void_kind) (ascii "void")
    (cond (eqb k bool_kind) (ascii "bool")
    (cond (eqb k u16_kind) (ascii "u16")
    (cond (eqb k i16_kind) (ascii "i16")
    (cond (eqb k pointer_kind) (ascii "*" ++ first)
    (cond (eqb k array_kind) (ascii "[" ++ decimal size ++ ascii "]" ++ first)
    (cond (eqb k struct_kind) (ascii "struct { " ++ first ++ ascii " }")
    (cond (eqb k function_kind) (ascii "fn(" ++ second ++ ascii ") -> " ++ first)
    (cond (eqb k alias_kind) (name ++ ascii " (alias for " ++ first ++ ascii ")")
    (cond (eqb k distinct_kind) name
    (cond (eqb k field_kind) (name ++ ascii ": " ++ first ++ joined last second) (first ++ joined last second))))))))))))

-- The text of a type, or of a list of cells
unfoldable pub type_text : NameTexts → Ty → List ℕ
type_text names end = []
type_text names (node k a b s n) = text_of k (names n) s (type_text names a) (type_text names b) (is_end b)
