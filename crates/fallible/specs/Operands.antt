-- The kinds of error, and what the three operands of each are.
use Rattle.std.specs.Prelude.{ℕ, Bool, true, false, List, [], ◌∷◌, get_or}

-- An operand is the number of a name, the number of a type row, a plain number, an operator (1 to 8, or 9 for every comparison), or an unused 0.
pub data OperandSort : Type 0 where
  name_operand : OperandSort
  type_operand : OperandSort
  number_operand : OperandSort
  operator_operand : OperandSort
  unused : OperandSort

-- "Kinds in the Rust's messages", from kind 1: the operands that are used, in order.
abbrev pub error_kinds : List (List OperandSort)
error_kinds =
    (name_operand ∷ []) ∷  -- 1: unknown type `NAME`
    (name_operand ∷ []) ∷  -- 2: no built-in type exists to match `internal` alias of `NAME`
    (name_operand ∷ type_operand ∷ []) ∷  -- 3: built-in type `NAME` (..) does not match `internal` definition (TYPE)
    (name_operand ∷ []) ∷  -- 4: duplicate type alias `NAME`
    (name_operand ∷ []) ∷  -- 5: type alias `NAME` conflicts with a built-in type
    (name_operand ∷ []) ∷  -- 6: not all control-flow paths of `NAME` return a value
    (name_operand ∷ []) ∷  -- 7: redefinition of local variable `NAME`
    (type_operand ∷ type_operand ∷ []) ∷  -- 8: type `SOURCE` is not assignable to `TARGET`; the target is the first operand
    (type_operand ∷ []) ∷  -- 9: must return a value of type `TYPE`
    (name_operand ∷ []) ∷  -- 10: unknown identifier `NAME`
    (number_operand ∷ number_operand ∷ []) ∷  -- 11: wrong number of arguments - expected NUMBER, got NUMBER
    (number_operand ∷ type_operand ∷ type_operand ∷ []) ∷  -- 12: invalid type for argument NUMBER - expected `TYPE`, got `TYPE`
    (type_operand ∷ []) ∷  -- 13: cannot call non-function value of type `TYPE`
    (type_operand ∷ []) ∷  -- 14: cannot use `TYPE` to index an array
    (type_operand ∷ type_operand ∷ []) ∷  -- 15: cannot cast `TYPE` to `TYPE`
    (type_operand ∷ []) ∷  -- 16: cannot dereference non-pointer type `TYPE`
    (type_operand ∷ []) ∷  -- 17: cannot access fields on type `TYPE`
    (type_operand ∷ name_operand ∷ []) ∷  -- 18: type `TYPE` has no field named `NAME`
    (type_operand ∷ []) ∷  -- 19: operator `~` is not compatible with type `TYPE`
    (type_operand ∷ []) ∷  -- 20: operator `!` can only be applied to booleans, not `TYPE`
    (type_operand ∷ []) ∷  -- 21: operator `&&` can only be applied to booleans, but left-hand side is `TYPE`
    (type_operand ∷ []) ∷  -- 22: operator `&&` can only be applied to booleans, but right-hand side is `TYPE`
    [] ∷  -- 23: integer literal '..' out of range
    (operator_operand ∷ type_operand ∷ type_operand ∷ []) ∷  -- 24: operator `OPERATOR` is not compatible with types `TYPE` and `TYPE`
    (number_operand ∷ number_operand ∷ []) ∷  -- 25: compound assignment target has length NUMBER, but array compound has length NUMBER
    (type_operand ∷ []) ∷  -- 26: target of array compound assignment cannot be `TYPE`
    (name_operand ∷ []) ∷  -- 27: target of struct compound assignment has no field named `NAME`
    (type_operand ∷ []) ∷  -- 28: target of struct compound assignment cannot be `TYPE`
    (name_operand ∷ []) ∷  -- 29: struct compound assigns `NAME` more than once
    []

-- Kind 3, which tells of the built-in type of its name too, and kind 23, the one that has a place
abbrev pub mismatch_kind : ℕ
mismatch_kind = 3

abbrev pub literal_kind : ℕ
literal_kind = 23

-- The sort of a kind's operand at place 0, 1 or 2. There is no kind 0.
unfoldable pub operand_sort : (kind place : ℕ) → OperandSort
operand_sort kind place = get_or (get_or ([] ∷ error_kinds) kind []) place unused

abbrev pub is_type : OperandSort → Bool
is_type name_operand = false
is_type type_operand = true
is_type number_operand = false
is_type operator_operand = false
is_type unused = false

-- The operand is a row number, which stands for the row unfolded where errors are compared.
unfoldable pub is_type_operand : (kind place : ℕ) → Bool
is_type_operand kind place = is_type (operand_sort kind place)
