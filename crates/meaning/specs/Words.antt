-- The words of an error and the names in a type, by properties of them: what document 02, paper 1, asks so that a message can be written.
use Rattle.std.specs.Prelude.{ℕ, ◌≤◌, ◌≡◌, true, ◌⊎◌, eqb, length}
use Rattle.types.specs.Ty.{Ty, end, node, alias_kind, field_kind, string_name}
use Rattle.fallible.specs.Operands.{OperandSort, name_operand, type_operand, number_operand, operator_operand, unused, error_kinds, operand_sort, literal_kind, mismatch_kind}
use Rattle.meaning.specs.TypeError.{TypeError, Operand, plain, row}

-- Of four properties, of a name, an operator, a literal's place and a built-in's name: an error whose words have them
module _ (N O L B : ℕ → Type 0) where
  -- An operand of a sort
  abbrev pub OperandOf : OperandSort → Operand → Type 0
  OperandOf name_operand (plain n) = N n
  OperandOf name_operand (row t) = ⊥
  OperandOf type_operand (plain n) = ⊥
  OperandOf type_operand (row t) = Unit {0}
  OperandOf number_operand (plain n) = Unit {0}
  OperandOf number_operand (row t) = ⊥
  OperandOf operator_operand (plain n) = O n
  OperandOf operator_operand (row t) = ⊥
  OperandOf unused (plain n) = Unit {0}
  OperandOf unused (row t) = ⊥

  abbrev pub OfBuiltIn : Operand → Type 0
  OfBuiltIn (plain n) = B n
  OfBuiltIn (row t) = ⊥

  pub record ErrorOf (e : TypeError) : Type 0 where
    pub low : 1 ≤ e.kind
    pub high : e.kind ≤ length error_kinds
    pub first : OperandOf (operand_sort e.kind 0) e.first
    pub second : OperandOf (operand_sort e.kind 1) e.second
    pub third : OperandOf (operand_sort e.kind 2) e.third
    pub literal : eqb e.kind literal_kind ≡ true → L e.place
    pub built_in : eqb e.kind mismatch_kind ≡ true → OfBuiltIn e.first

-- A name that a row may have: String's, or one with a property
abbrev pub RowName : (N : ℕ → Type 0) → (name : ℕ) → Type 0
RowName N name = (name ≡ string_name) ⊎ N name

-- Every name in a type: those of aliases of both sorts and of fields
unfoldable pub NamesIn : (N : ℕ → Type 0) → Ty → Type 0
NamesIn N end = Unit {0}
NamesIn N (node k a b s n) = (alias_kind ≤ k → k ≤ field_kind → RowName N n) × (NamesIn N a × NamesIn N b)
