-- The reference's descriptions of errors, one a kind (document 02, paper 1). In a description a capital letter stands for what is printed
-- in its place, every other byte for itself.
use Rattle.std.specs.Prelude.{ℕ, ◌≤◌, ◌≡◌, cond, List, [], ◌∷◌, ◌++◌, map, length, get_or, take, drop, eqb}
use Prim.Native.Char.{Char, code}
use Prim.Native.String.{String}
use Rattle.text.specs.Text.{ascii}
use Rattle.descriptions.specs.declared.Piece.{Piece}
use Rattle.descriptions.specs.declared.Piece.TheVariants.{Fixed, Name, Row, Number, Operator, BuiltIn, Literal}

-- By kind, from 0. A kind that is not in the table of kinds has an empty one; there is no kind 0
abbrev pub descriptions : List String
descriptions =
    ""
    ∷ "unknown type `N`"  -- 1
    ∷ "no built-in type exists to match `internal` alias of `N`"
    ∷ "built-in type `N` (B) does not match `internal` definition (U)"
    ∷ "duplicate type alias `N`"
    ∷ "type alias `N` conflicts with a built-in type"  -- 5
    ∷ "not all control-flow paths of `N` return a value"
    ∷ "redefinition of local variable `N`"
    ∷ "type `U` is not assignable to `T`"
    ∷ "must return a value of type `T`"
    ∷ "unknown identifier `N`"  -- 10
    ∷ "wrong number of arguments - expected P, got Q"
    ∷ "invalid type for argument P - expected `U`, got `V`"
    ∷ "cannot call non-function value of type `T`"
    ∷ "cannot use `T` to index an array"
    ∷ "cannot cast `T` to `U`"  -- 15
    ∷ "cannot dereference non-pointer type `T`"
    ∷ "cannot access fields on type `T`"
    ∷ "type `T` has no field named `M`"
    ∷ "operator `~` is not compatible with type `T`"
    ∷ "operator `!` can only be applied to booleans, not `T`"  -- 20
    ∷ "operator `&&` can only be applied to booleans, but left-hand side is `T`"
    ∷ "operator `&&` can only be applied to booleans, but right-hand side is `T`"
    ∷ "integer literal 'L' out of range"
    ∷ "operator `O` is not compatible with types `U` and `V`"
    ∷ "compound assignment target has length P, but array compound has length Q"  -- 25
    ∷ "target of array compound assignment cannot be `T`"
    ∷ "target of struct compound assignment has no field named `N`"
    ∷ "target of struct compound assignment cannot be `T`"
    ∷ "struct compound assigns `N` more than once"
    ∷ []

-- "one line each, ended by byte 10"; an empty description has no line
abbrev pub ended : List ℕ → List ℕ
ended [] = []
ended (byte ∷ bytes) = byte ∷ bytes ++ (10 ∷ [])

abbrev pub line : String → List ℕ
line description = ended (ascii description)

-- The line of a kind
unfoldable pub line_of : (kind : ℕ) → List ℕ
line_of kind = get_or (map line descriptions) kind []

-- The lines of all kinds, one after the other
unfoldable pub lines_of : List String → List ℕ
lines_of [] = []
lines_of (description ∷ rest) = line description ++ lines_of rest

unfoldable pub all_lines : List ℕ
all_lines = lines_of descriptions

-- The line of a kind stands among them from `start` to `end`
pub record LineStands (kind start end : ℕ) : Type 0 where
  pub inside : end ≤ length all_lines
  pub is : drop start (take end all_lines) ≡ line_of kind

-- A kind is in the table of kinds: it has a line
abbrev pub InTable : (kind : ℕ) → Type 0
InTable kind = 1 ≤ length (line_of kind)

-- The words of an error that descriptions read: its operands, and the place of its literal
abbrev pub first_operand : ℕ
first_operand = 4

abbrev pub second_operand : ℕ
second_operand = 5

abbrev pub third_operand : ℕ
third_operand = 6

abbrev pub literal_place : ℕ
literal_place = 7

-- A letter: what it stands for, and the word that it reads
pub record Letter : Type 0 where
  pub letter : Char
  pub piece : Piece
  pub word : ℕ

abbrev pub reads : Char → Piece → (word : ℕ) → Letter
reads letter piece word = record { letter = letter; piece = piece; word = word }

-- Name: the name of that number. Row: the type of that row. Number: the number in decimal. Operator: the operator of that number.
-- BuiltIn: the built-in type of the name of that number. Literal: the digits of the literal at that place
abbrev pub letters : List Letter
letters =
    reads "N" Name first_operand
    ∷ reads "M" Name second_operand
    ∷ reads "T" Row first_operand
    ∷ reads "U" Row second_operand
    ∷ reads "V" Row third_operand
    ∷ reads "P" Number first_operand
    ∷ reads "Q" Number second_operand
    ∷ reads "O" Operator first_operand
    ∷ reads "B" BuiltIn first_operand
    ∷ reads "L" Literal literal_place
    ∷ []

-- What a byte stands for among some letters: itself, if it is none of them
abbrev pub piece_in : List Letter → (byte : ℕ) → Piece
piece_in [] byte = Fixed
piece_in (l ∷ ls) byte = cond (eqb byte (code l.letter)) l.piece (piece_in ls byte)

abbrev pub piece_of : (byte : ℕ) → Piece
piece_of byte = piece_in letters byte

-- The word that it reads; where it stands for itself, any will do
abbrev pub word_in : List Letter → (byte : ℕ) → ℕ
word_in [] byte = first_operand
word_in (l ∷ ls) byte = cond (eqb byte (code l.letter)) l.word (word_in ls byte)

abbrev pub word_of : (byte : ℕ) → ℕ
word_of byte = word_in letters byte

-- "operator": 1 to 8, or 9 for every comparison
abbrev pub operators : List String
operators = "" ∷ "+" ∷ "-" ∷ "*" ∷ "&" ∷ "^" ∷ "|" ∷ "<<" ∷ ">>" ∷ "==" ∷ []

unfoldable pub operator_text : (operator : ℕ) → List ℕ
operator_text operator = get_or (map ascii operators) operator []

pub record IsOperator (operator : ℕ) : Type 0 where
  pub low : 1 ≤ operator
  pub high : operator ≤ 9
