-- The text of an error, and what of it must exist (document 02, paper 1).
use Rattle.std.specs.Prelude.{ℕ, ◌<◌, ◌≡◌, true, List, [], ◌∷◌, get_or}
use Rattle.std.proofs.Math.Option.{Option, none, some}
use Rattle.types.specs.Ty.{Ty}
use Rattle.types.specs.Table.{IsType, unfolded}
use Rattle.fallible.specs.Errors.{error_words}
use Rattle.fallible.specs.declared.Error.{Error}
use Rattle.names.specs.Names.{name_count}
use Rattle.meaning.specs.Context.{each, is_some, All}
use Rattle.meaning.specs.Promise.{built_ins_of}
use Rattle.text.specs.Text.{decimal}
use Rattle.display.specs.Display.{NameTexts, type_text}
use Rattle.display.specs.Names.{name_text}
use Rattle.descriptions.specs.Descriptions.{line_of, InTable, piece_of, word_of, operator_text, IsOperator}
use Rattle.descriptions.specs.declared.Piece.{Piece}
use Rattle.descriptions.specs.declared.Piece.TheVariants.{Fixed, Name, Row, Number, Operator, BuiltIn, Literal}
use Rattle.listing.specs.Literals.{literal_text, IsLiteral}

-- What messages are printed from: the module, the text for String, the type rows and how many there are
pub record Inputs : Type 0 where
  pub input : List ℕ
  pub built_in : List ℕ
  pub rows : List ℕ
  pub count : ℕ

abbrev pub inputs : (input built_in rows : List ℕ) → (count : ℕ) → Inputs
inputs input built_in rows count = record { input = input; built_in = built_in; rows = rows; count = count }

-- "A name's bytes come from the module's names, or from the lent built-in text for String"
abbrev pub names_in : Inputs → NameTexts
names_in x = name_text x.input x.built_in

-- The built-in type of a name
abbrev pub built_in_in : Inputs → (name : ℕ) → Option Ty
built_in_in x name = built_ins_of x.input name

abbrev pub option_text : NameTexts → Option Ty → List ℕ
option_text names none = []
option_text names (some t) = type_text names t

-- What is printed for a byte of a description, by what it stands for, from the word that it reads
abbrev pub text_of : Inputs → Piece → (byte word : ℕ) → List ℕ
text_of x Fixed byte word = byte ∷ []
text_of x Name byte word = names_in x word
text_of x Row byte word = type_text (names_in x) (unfolded x.rows word)
text_of x Number byte word = decimal word
text_of x Operator byte word = operator_text word
text_of x BuiltIn byte word = option_text (names_in x) (built_in_in x word)
text_of x Literal byte word = literal_text x.input word

-- A word of an error, by its place
abbrev pub word_at : Error → (place : ℕ) → ℕ
word_at e place = get_or (error_words e) place 0

unfoldable pub piece_text : Inputs → Error → (byte : ℕ) → List ℕ
piece_text x e byte = text_of x (piece_of byte) byte (word_at e (word_of byte))

-- "each error as the Rust's description", with its byte 10
unfoldable pub description_of : Inputs → Error → List ℕ
description_of x e = each (piece_text x e) (line_of e.kind)

-- Test 8: what a byte of a description reads exists
abbrev pub ExistsAs : Inputs → Piece → (word : ℕ) → Type 0
ExistsAs x Fixed word = Unit
ExistsAs x Name word = word < name_count x.input
ExistsAs x Row word = IsType x.rows x.count word
ExistsAs x Number word = Unit
ExistsAs x Operator word = IsOperator word
ExistsAs x BuiltIn word = (word < name_count x.input) × (is_some (built_in_in x word) ≡ true)
ExistsAs x Literal word = IsLiteral x.input word

unfoldable pub PieceExists : Inputs → Error → (byte : ℕ) → Type 0
PieceExists x e byte = ExistsAs x (piece_of byte) (word_at e (word_of byte))

-- An error's description can be printed; not "an error whose kind is not in the table, whose name, type row or operator does not exist, or,
-- of kind 23, whose place is no literal, a kind 3 whose name is no built-in". "Words no message reads are not tested"
pub record Readable (x : Inputs) (e : Error) : Type 0 where
  pub known : InTable e.kind
  pub exist : All (PieceExists x e) (line_of e.kind)
