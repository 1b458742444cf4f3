-- The descriptions and the table of kinds (crate `fallible`) agree on what an error's operands are.
use Rattle.std.specs.Prelude.{ℕ, ◌<◌, ◌≡◌, cond, List, [], ◌∷◌, ◌++◌, length, eqb}
use Rattle.fallible.specs.Operands.{OperandSort, name_operand, type_operand, number_operand, operator_operand, unused, mismatch_kind, literal_kind, operand_sort}
use Rattle.descriptions.specs.Descriptions.{descriptions, line_of, piece_of, word_of, first_operand, second_operand, third_operand, literal_place}
use Rattle.descriptions.specs.declared.Piece.{Piece}
use Rattle.descriptions.specs.declared.Piece.TheVariants.{Fixed, Name, Row, Number, Operator, BuiltIn, Literal}

-- A piece, if it reads a word at all
abbrev pub reading : Piece → List Piece
reading Fixed = []
reading Name = Name ∷ []
reading Row = Row ∷ []
reading Number = Number ∷ []
reading Operator = Operator ∷ []
reading BuiltIn = BuiltIn ∷ []
reading Literal = Literal ∷ []

-- As what a line prints a word of the error: once for each letter that reads it
unfoldable pub printed_as : (word : ℕ) → (line : List ℕ) → List Piece
printed_as word [] = []
printed_as word (byte ∷ line) = cond (eqb (word_of byte) word) (reading (piece_of byte)) [] ++ printed_as word line

-- As what an operand is printed, by its sort
abbrev pub printed_once : OperandSort → List Piece
printed_once name_operand = Name ∷ []
printed_once type_operand = Row ∷ []
printed_once number_operand = Number ∷ []
printed_once operator_operand = Operator ∷ []
printed_once unused = []

-- Every operand of a kind is printed exactly once, and as what it is; nothing else is
pub record OperandsPrinted (kind : ℕ) : Type 0 where
  pub first : printed_as first_operand (line_of kind) ≡ printed_once (operand_sort kind 0) ++ cond (eqb kind mismatch_kind) (BuiltIn ∷ []) []
  pub second : printed_as second_operand (line_of kind) ≡ printed_once (operand_sort kind 1)
  pub third : printed_as third_operand (line_of kind) ≡ printed_once (operand_sort kind 2)
  pub literal : printed_as literal_place (line_of kind) ≡ cond (eqb kind literal_kind) (Literal ∷ []) []

-- So of each kind
abbrev pub EveryOperandPrinted : Type 0
EveryOperandPrinted = (kind : ℕ) → kind < length descriptions → OperandsPrinted kind
