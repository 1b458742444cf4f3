-- Document 01, "Module file": the list of records, one line a kind, and what is due in each state of a child list.
use Rattle.std.specs.Prelude.{ℕ, ◌≤◌, ◌≡◌, Bool, true, false, ◌&&◌, ◌||◌, List, [], ◌∷◌, leb, ltb, eqb}
use Rattle.shape.specs.Kinds as kinds
use Rattle.shape.specs.declared.Rule.{Rule}
use Rattle.shape.specs.declared.Rule.TheVariants.{Unused, Slot, Name, Any, Base, Flag, Operator, Comparison}
use Rattle.shape.specs.declared.Rule.TheVariants.{Flags}
use Rattle.shape.specs.declared.Holds.{Holds}
use Rattle.shape.specs.declared.Holds.TheVariants.{Nothing, FreeBytes, OneModule, NamesThenItems, Items, Names}
use Rattle.shape.specs.declared.Holds.TheVariants.{OneType, Fields, OneExpression, TwoExpressions, CallParts}
use Rattle.shape.specs.declared.Holds.TheVariants.{Expressions, ExpressionThenType, CompoundFields, Statements}
use Rattle.shape.specs.declared.Holds.TheVariants.{Declaration, InitialValue, ExpressionThenCompound}
use Rattle.shape.specs.declared.Holds.TheVariants.{OneCompound, OptionalExpression, OneStatement}
use Rattle.shape.specs.declared.Holds.TheVariants.{ExpressionThenStatement, IfParts, ThenPart, OptionalStatement}
use Rattle.shape.specs.declared.Holds.TheVariants.{FunctionParts, Parameters}
use Rattle.shape.specs.declared.Shape.{Shape}
use Rattle.shape.specs.declared.Due.{Due}

-- one of two, by a test
abbrev pub pick : {A : Type 0} → Bool → A → A → A
pick true a b = a
pick false a b = b

-- The classes of kinds, each by its lowest kind. A kind that is in no list has class 0.
abbrev pub unlisted : ℕ
unlisted = 0

abbrev pub a_module : ℕ
a_module = kinds.whole_module

abbrev pub a_names : ℕ
a_names = kinds.names

abbrev pub a_name : ℕ
a_name = kinds.name

-- T: 16 to 20
abbrev pub a_type : ℕ
a_type = kinds.named_type

abbrev pub a_field : ℕ
a_field = kinds.field

-- E: 32 to 47
abbrev pub an_expression : ℕ
an_expression = kinds.identifier

-- C: 48, 49
abbrev pub a_compound : ℕ
a_compound = kinds.array_compound

abbrev pub a_compound_field : ℕ
a_compound_field = kinds.compound_field

-- S: 64 to 74
abbrev pub a_statement : ℕ
a_statement = kinds.block

-- items: 80 to 84
abbrev pub an_item : ℕ
an_item = kinds.function_definition

abbrev pub a_parameter : ℕ
a_parameter = kinds.parameter

-- A record's class, its fields and what it holds after them
abbrev pub no_field : ℕ → Holds → Shape
no_field c h = record { class = c; fields = 0; first = Unused; second = Unused; holds = h }

abbrev pub one_field : ℕ → Rule → Holds → Shape
one_field c a h = record { class = c; fields = 1; first = a; second = Unused; holds = h }

abbrev pub two_fields : ℕ → Rule → Rule → Holds → Shape
two_fields c a b h = record { class = c; fields = 2; first = a; second = b; holds = h }

-- Document 01's list of records: a kind, its class, its fields, what it holds after them
abbrev pub shapes : List (ℕ × Shape)
shapes =
    (kinds.whole_module, no_field a_module NamesThenItems)
    ∷ (kinds.names, no_field a_names Names)
    ∷ (kinds.name, no_field a_name FreeBytes)
    ∷ (kinds.named_type, two_fields a_type Slot Name Nothing)
    ∷ (kinds.void_type, one_field a_type Slot Nothing)
    ∷ (kinds.pointer_type, one_field a_type Slot OneType)
    ∷ (kinds.array_type, two_fields a_type Slot Any OneType)
    ∷ (kinds.struct_type, one_field a_type Slot Fields)
    ∷ (kinds.field, one_field a_field Name OneType)
    ∷ (kinds.identifier, two_fields an_expression Slot Name Nothing)
    ∷ (kinds.integer, two_fields an_expression Slot Base FreeBytes)
    ∷ (kinds.boolean, two_fields an_expression Slot Flag Nothing)
    ∷ (kinds.string, one_field an_expression Slot FreeBytes)
    ∷ (kinds.call, one_field an_expression Slot CallParts)
    ∷ (kinds.index, one_field an_expression Slot TwoExpressions)
    ∷ (kinds.cast, one_field an_expression Slot ExpressionThenType)
    ∷ (kinds.pointer_take, one_field an_expression Slot OneExpression)
    ∷ (kinds.pointer_dereference, one_field an_expression Slot OneExpression)
    ∷ (kinds.field_access, two_fields an_expression Slot Name OneExpression)
    ∷ (kinds.bitwise_not, one_field an_expression Slot OneExpression)
    ∷ (kinds.boolean_not, one_field an_expression Slot OneExpression)
    ∷ (kinds.boolean_and, one_field an_expression Slot TwoExpressions)
    ∷ (kinds.arithmetic_bin_op, two_fields an_expression Slot Operator TwoExpressions)
    ∷ (kinds.comparison_bin_op, two_fields an_expression Slot Comparison TwoExpressions)
    ∷ (kinds.sizeof, one_field an_expression Slot OneType)
    ∷ (kinds.array_compound, no_field a_compound Expressions)
    ∷ (kinds.struct_compound, no_field a_compound CompoundFields)
    ∷ (kinds.compound_field, one_field a_compound_field Name OneExpression)
    ∷ (kinds.block, one_field a_statement Flag Statements)
    ∷ (kinds.expression_statement, no_field a_statement OneExpression)
    ∷ (kinds.variable_declaration, one_field a_statement Name Declaration)
    ∷ (kinds.assignment, no_field a_statement TwoExpressions)
    ∷ (kinds.compound_assignment, no_field a_statement ExpressionThenCompound)
    ∷ (kinds.return, no_field a_statement OptionalExpression)
    ∷ (kinds.loop, no_field a_statement OneStatement)
    ∷ (kinds.while, no_field a_statement ExpressionThenStatement)
    ∷ (kinds.break, no_field a_statement Nothing)
    ∷ (kinds.if_statement, no_field a_statement IfParts)
    ∷ (kinds.inline_assembly, no_field a_statement FreeBytes)
    ∷ (kinds.function_definition, one_field an_item Name FunctionParts)
    ∷ (kinds.type_alias, two_fields an_item Name Flags OneType)
    ∷ (kinds.use_item, no_field an_item FreeBytes)
    ∷ (kinds.global_declaration, one_field an_item Name Declaration)
    ∷ (kinds.assembly_item, no_field an_item FreeBytes)
    ∷ (kinds.parameter, one_field a_parameter Name OneType)
    ∷ []

-- the shape that a list gives a kind
abbrev pub look_up : List (ℕ × Shape) → (kind : ℕ) → Shape
look_up [] k = no_field unlisted Nothing
look_up (r ∷ rs) k = pick (eqb k r.0) r.1 (look_up rs k)

-- the shape of a kind
unfoldable pub shape_of : (kind : ℕ) → Shape
shape_of k = look_up shapes k

-- `r` is the shape of a kind, which has at most two fields
pub record Shaped (kind : ℕ) (r : Shape) : Type 0 where
  pub is : r ≡ shape_of kind
  pub few : r.fields ≤ 2

-- What may come next in a child list: nothing, bytes, a record of a class, such a record or the end, a record of one of two classes or the end
abbrev pub nothing_due : Due
nothing_due = record { free = false; ends = true; class = unlisted; next = Nothing; other = unlisted; after = Nothing }

abbrev pub bytes_due : Due
bytes_due = record { free = true; ends = true; class = unlisted; next = Nothing; other = unlisted; after = Nothing }

abbrev pub must_be : (class : ℕ) → Holds → Due
must_be c h = record { free = false; ends = false; class = c; next = h; other = c; after = h }

abbrev pub may_be : (class : ℕ) → Holds → Due
may_be c h = record { free = false; ends = true; class = c; next = h; other = c; after = h }

abbrev pub may_be_either : (class : ℕ) → Holds → (other : ℕ) → Holds → Due
may_be_either c h o g = record { free = false; ends = true; class = c; next = h; other = o; after = g }

-- what is due in each state, with the state after it
unfoldable pub due_in : Holds → Due
due_in Nothing = nothing_due
due_in FreeBytes = bytes_due
due_in OneModule = must_be a_module Nothing
due_in NamesThenItems = must_be a_names Items
due_in Items = may_be an_item Items
due_in Names = may_be a_name Names
due_in OneType = must_be a_type Nothing
due_in Fields = may_be a_field Fields
due_in OneExpression = must_be an_expression Nothing
due_in TwoExpressions = must_be an_expression OneExpression
due_in CallParts = must_be an_expression Expressions
due_in Expressions = may_be an_expression Expressions
due_in ExpressionThenType = must_be an_expression OneType
due_in CompoundFields = may_be a_compound_field CompoundFields
due_in Statements = may_be a_statement Statements
due_in Declaration = must_be a_type InitialValue
due_in InitialValue = may_be_either an_expression Nothing a_compound Nothing
due_in ExpressionThenCompound = must_be an_expression OneCompound
due_in OneCompound = must_be a_compound Nothing
due_in OptionalExpression = may_be an_expression Nothing
due_in OneStatement = must_be a_statement Nothing
due_in ExpressionThenStatement = must_be an_expression OneStatement
due_in IfParts = must_be an_expression ThenPart
due_in ThenPart = must_be a_statement OptionalStatement
due_in OptionalStatement = may_be a_statement Nothing
due_in FunctionParts = must_be a_type Parameters
due_in Parameters = may_be_either a_parameter Parameters a_statement Nothing

-- a child list that goes on as `due` says is complete at `at`
unfoldable pub is_done : Due → (at end : ℕ) → Bool
is_done due at end = due.free || (due.ends && eqb at end)

-- a record of a class may come next
unfoldable pub may_stand : Due → (class : ℕ) → Bool
may_stand due c = eqb c due.class || eqb c due.other

-- the state after a record of a class
unfoldable pub state_after : Due → (class : ℕ) → Holds
state_after due c = pick (eqb c due.class) due.next due.after

abbrev pub is_between : (low value high : ℕ) → Bool
is_between low v high = leb low v && leb v high

-- a field with a rule may hold a value, in a module with so many names
unfoldable pub allowed : (names : ℕ) → Rule → (value : ℕ) → Bool
allowed n Unused v = true
allowed n Slot v = eqb v 0
allowed n Name v = ltb v n
allowed n Any v = true
allowed n Base v = is_between 2 v 36
allowed n Flag v = leb v 1
allowed n Operator v = is_between 1 v 8
allowed n Comparison v = is_between 1 v 5
allowed n Flags v = leb v 3
