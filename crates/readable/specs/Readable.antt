-- Document 02, paper 1, refusal 8: what the names of rows and the words of errors have to be, so that messages can be written of them; of
-- an error of a module, and of what an accepted check leaves.
use Rattle.std.specs.Prelude.{ℕ, ◌*◌, ◌≤◌, ◌<◌, ◌≡◌, true, List, [], eqb, length, get_or}
use Rattle.types.specs.Ty.{kind_of, name_of, alias_kind, field_kind}
use Rattle.types.specs.Table.{unfolded, Table, IsType}
use Rattle.fallible.specs.Operands.{OperandSort, name_operand, type_operand, number_operand, operator_operand, unused, error_kinds, operand_sort, literal_kind, mismatch_kind}
use Rattle.fallible.specs.Errors.{error_width, error_at}
use Rattle.fallible.specs.declared.Error.{Error}
use Rattle.names.specs.Names.{names_of, name_count}
use Rattle.listing.specs.Literals.{IsLiteral}
use Rattle.meaning.specs.TypeError.{TypeError}
use Rattle.meaning.specs.Context.{is_some}
use Rattle.meaning.specs.Promise.{primitive_type, Counts}
use Rattle.meaning.specs.Words.{ErrorOf, RowName}

-- A name of the module
abbrev pub IsName : (input : List ℕ) → (name : ℕ) → Type 0
IsName input name = name < name_count input

-- A name whose text is that of a built-in type
abbrev pub IsBuiltIn : (input : List ℕ) → (name : ℕ) → Type 0
IsBuiltIn input name = is_some (primitive_type (get_or (names_of input) name [])) ≡ true

-- An operator is 1 to 8, or 9 for every comparison
abbrev pub IsOperator : (operator : ℕ) → Type 0
IsOperator operator = (1 ≤ operator) × (operator ≤ 9)

-- An error of a module whose message can be written
abbrev pub Readable : (input : List ℕ) → TypeError → Type 0
Readable input = ErrorOf (IsName input) IsOperator (IsLiteral input) (IsBuiltIn input)

-- A word that is an operand of a sort: a name, a type row or an operator that exists
abbrev pub WordOf : (input rows : List ℕ) → (count : ℕ) → OperandSort → (word : ℕ) → Type 0
WordOf input rows count name_operand word = IsName input word
WordOf input rows count type_operand word = IsType rows count word
WordOf input rows count number_operand word = Unit {0}
WordOf input rows count operator_operand word = IsOperator word
WordOf input rows count unused word = Unit {0}

-- "an error whose kind is not in the table, whose name, type row or operator does not exist, or, of kind 23, whose place is no literal, a
-- kind 3 whose name is no built-in" is refused: this one is not
pub record WordsExist (input rows : List ℕ) (count : ℕ) (e : Error) : Type 0 where
  pub low : 1 ≤ e.kind
  pub high : e.kind ≤ length error_kinds
  pub first : WordOf input rows count (operand_sort e.kind 0) e.first
  pub second : WordOf input rows count (operand_sort e.kind 1) e.second
  pub third : WordOf input rows count (operand_sort e.kind 2) e.third
  pub literal : eqb e.kind literal_kind ≡ true → IsLiteral input e.place
  pub built_in : eqb e.kind mismatch_kind ≡ true → IsBuiltIn input e.first

-- The rows obey the rules, each name of theirs exists, the errors counted are lent, and the words of each exist
pub record LeftReadable (input rows errors : List ℕ) (counts : Counts) : Type 0 where
  pub table : Table rows counts.rows
  pub names : (n : ℕ) → 1 ≤ n → n ≤ counts.rows → alias_kind ≤ kind_of (unfolded rows n) → kind_of (unfolded rows n) ≤ field_kind
      → RowName (IsName input) (name_of (unfolded rows n))
  pub lent : error_width * counts.errors ≤ length errors
  pub words : (i : ℕ) → i < counts.errors → WordsExist input rows counts.rows (error_at errors i)
