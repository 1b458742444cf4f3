-- The message of an error of each kind, as the reference prints it.
use Prim.Native.Nat.{ℕ}
use mathlib.Core.Path.{◌≡◌, refl}
use mathlib.Core.List.{List, [], ◌∷◌, ◌++◌}
use Rattle.shape.specs.Shape.{shape_of, due_in}
use Rattle.types.specs.Table.{fixed_words, unfolded, up_to}
use Rattle.fallible.specs.Errors.{error_at, errors_from}
use Rattle.record_bytes.specs.Bytes.{word_at, half_at}
use Rattle.trees.specs.Example.{head, word}
use Rattle.names.specs.Names.{name_bytes, names_of, name_places, names_end, chain, stands, same_bytes}
use Rattle.trees.specs.Record.{records_at, records_with}
use Rattle.meaning.specs.Context.{each}
use Rattle.meaning.specs.Promise.{built_in_types}
use Rattle.text.specs.Text.{ascii, decimal, decimal_with}
use Rattle.listing.specs.Literals.{literals_in, literal_places, literal_text}
use Rattle.display.specs.Display.{type_text}
use Rattle.display.specs.Names.{name_text}
use Rattle.descriptions.specs.Descriptions.{line_of, lines_of, operator_text}
use Rattle.error_messages.specs.Description.{Inputs, inputs, piece_text, description_of}
use Rattle.error_messages.specs.Messages.{messages_of}

-- Names ab, u16 and String, one global `ab: u16 = +70000`
input : List ℕ
input =
    head 165 1 0 0
    ++ head 75 2 0 0
    ++ head 18 3 0 0 ++ ascii "ab"
    ++ head 19 3 0 0 ++ ascii "u16"
    ++ head 22 3 0 0 ++ ascii "String"
    ++ head 74 83 3 1 ++ word 0
    ++ head 24 16 3 4 ++ word 0 ++ word 1
    ++ head 30 33 3 10 ++ word 0 ++ word 10 ++ ascii "+70000"

literal_at_135 : literal_places input ≡ 135 ∷ []
unfolding input literal_places literals_in records_at records_with stands word_at half_at shape_of due_in
literal_at_135 = refl

-- A row of five words
abbrev row : (kind first second name size : ℕ) → List ℕ
row kind first second name size = kind ∷ first ∷ second ∷ name ∷ size ∷ []

-- Rows 8 to 14: an empty struct, the alias ab of bool, a field u16 of type u16 and a struct of it, an argument of type u16 and a function of
-- it, an array of 300 i16
rows : List ℕ
rows =
    fixed_words
    ++ row 8 0 0 0 0
    ++ row 10 3 0 0 1
    ++ row 12 4 0 1 1
    ++ row 8 10 0 0 1
    ++ row 13 4 0 0 0
    ++ row 9 2 12 0 1
    ++ row 7 5 300 0 300

-- The text for String is another than the module's name
example : Inputs
unfolding input rows
example = inputs input (ascii "text") rows 14

-- An error of a kind with its operands and the place of its literal
abbrev error : (kind first second third place : ℕ) → List ℕ
error kind first second third place = kind ∷ 0 ∷ 3 ∷ 1 ∷ first ∷ second ∷ third ∷ place ∷ []

errors : List ℕ
errors =
    error 1 0 0 0 0
    ++ error 2 0 0 0 0
    ++ error 3 1 5 0 0
    ++ error 3 2 9 0 0
    ++ error 4 0 0 0 0
    ++ error 5 1 0 0 0
    ++ error 6 0 0 0 0
    ++ error 7 0 0 0 0
    ++ error 8 4 7 0 0
    ++ error 9 4 0 0 0
    ++ error 10 0 0 0 0
    ++ error 11 10 65536 0 0
    ++ error 12 0 8 11 0
    ++ error 13 1 0 0 0
    ++ error 14 3 0 0 0
    ++ error 15 13 14 0 0
    ++ error 16 2 0 0 0
    ++ error 17 6 0 0 0
    ++ error 18 11 0 0 0
    ++ error 19 9 0 0 0
    ++ error 20 4 0 0 0
    ++ error 21 6 0 0 0
    ++ error 22 5 0 0 0
    ++ error 23 0 0 0 135
    ++ error 24 7 4 5 0
    ++ error 24 9 3 2 0
    ++ error 25 3 4294967295 0 0
    ++ error 26 8 0 0 0
    ++ error 27 1 0 0 0
    ++ error 28 14 0 0 0
    ++ error 29 0 0 0 0

every_kind : messages_of example errors 31
    ≡ lines_of ("unknown type `ab`"
    ∷ "no built-in type exists to match `internal` alias of `ab`"
    ∷ "built-in type `u16` (u16) does not match `internal` definition (i16)"
    ∷ "built-in type `String` (text) does not match `internal` definition (ab (alias for bool))"
    ∷ "duplicate type alias `ab`"
    ∷ "type alias `u16` conflicts with a built-in type"
    ∷ "not all control-flow paths of `ab` return a value"
    ∷ "redefinition of local variable `ab`"
    ∷ "type `text` is not assignable to `u16`"
    ∷ "must return a value of type `u16`"
    ∷ "unknown identifier `ab`"
    ∷ "wrong number of arguments - expected 10, got 65536"
    ∷ "invalid type for argument 0 - expected `struct {  }`, got `struct { u16: u16 }`"
    ∷ "cannot call non-function value of type `<unknown>`"
    ∷ "cannot use `bool` to index an array"
    ∷ "cannot cast `fn(u16) -> void` to `[300]i16`"
    ∷ "cannot dereference non-pointer type `void`"
    ∷ "cannot access fields on type `*u16`"
    ∷ "type `struct { u16: u16 }` has no field named `ab`"
    ∷ "operator `~` is not compatible with type `ab (alias for bool)`"
    ∷ "operator `!` can only be applied to booleans, not `u16`"
    ∷ "operator `&&` can only be applied to booleans, but left-hand side is `*u16`"
    ∷ "operator `&&` can only be applied to booleans, but right-hand side is `i16`"
    ∷ "integer literal '+70000' out of range"
    ∷ "operator `<<` is not compatible with types `u16` and `i16`"
    ∷ "operator `==` is not compatible with types `bool` and `void`"
    ∷ "compound assignment target has length 3, but array compound has length 4294967295"
    ∷ "target of array compound assignment cannot be `struct {  }`"
    ∷ "target of struct compound assignment has no field named `u16`"
    ∷ "target of struct compound assignment cannot be `[300]i16`"
    ∷ "struct compound assigns `ab` more than once"
    ∷ [])
unfolding input rows example errors messages_of description_of piece_text line_of lines_of operator_text each errors_from error_at name_text type_text unfolded up_to decimal decimal_with name_bytes names_of name_places names_end chain stands same_bytes word_at half_at literal_text built_in_types
every_kind = refl
