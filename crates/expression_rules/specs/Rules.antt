-- What each kind of expression adds once its operands are typed, and the forms in which rules promise it.
use Rattle.std.specs.Prelude.{ℕ, ◌+◌, ◌-◌, ◌≡◌, Bool, true, false, cond, not, List, [], ◌∷◌, ◌++◌, eqb, take, drop}
use Rattle.shape.specs.Kinds as kinds
use Rattle.types.specs.Ty.{Ty, is, is_integral, pointer, bool, bool_kind, u16_kind, pointer_kind, array_kind}
use Rattle.types.specs.Table.{unfolded}
use Rattle.types.specs.declared.Row.TheVariants.{Pointer}
use Rattle.relations.specs.Relations.{is_castable_to}
use Rattle.literal.specs.Literal.{from_str_radix}
use Rattle.record_bytes.specs.Bytes.{half_at, word_at, field_end, fields_end}
use Rattle.layout.specs.Layout.{stop_at}
use Rattle.trees.specs.Tree.{Location, Expression}
use Rattle.trees.specs.Record.{location_at}
use Rattle.fallible.specs.declared.Error.{Error}
use Rattle.fallible.specs.Operands.{literal_kind}
use Rattle.meaning.specs.TypeError.{TypeError, unless, unknown_identifier, invalid_index, invalid_cast, not_a_pointer}
use Rattle.meaning.specs.TypeError.{not_integral, not_boolean, left_not_boolean, right_not_boolean, literal_out_of_range}
use Rattle.meaning.specs.Context.{Context, is_some, or_unknown, resolve_identifier}
use Rattle.meaning.specs.Convert.{slot}
use Rattle.meaning.specs.Expression.{location_of, expression_type, expression_errors, expression_slots, part_of, field_type}
use Rattle.meaning.specs.Expression.{field_errors, arithmetic_type, arithmetic_errors, comparison_operator, check_assignable}
use Rattle.walk.specs.declared.State.{State}
use Rattle.walk.specs.declared.Typed.{Typed}
use Rattle.walk.specs.Effect.{Effect, reporting}
use Rattle.walk.specs.Represents.{Lent, lent, Good, Shows, Typing}
use Rattle.walk.specs.Post.{Makes, Reported, Tells, Walked, WalkedTo}
use Rattle.expression_rules.specs.Words.{or_unknown_row, resolved_word}

-- Operators on one operand, the records 39 to 43: its type, its errors and what it meets, from the type t of the operand. `name` is a field's

abbrev pub unary_type : (kind name : ℕ) → Ty → Ty
unary_type kind name t =
    cond (eqb kind kinds.pointer_take) (pointer t) (cond (eqb kind kinds.pointer_dereference) (part_of pointer_kind t) (cond (eqb kind kinds.field_access) (or_unknown (field_type name t)) t))

abbrev pub unary_errors : (kind : ℕ) → Location → (name : ℕ) → Ty → List TypeError
unary_errors kind l name t =
    cond (eqb kind kinds.pointer_take) []
    (cond (eqb kind kinds.pointer_dereference) (unless (is pointer_kind t) (not_a_pointer l t))
    (cond (eqb kind kinds.field_access) (field_errors l name t)
    (cond (eqb kind kinds.bitwise_not) (unless (is_integral t) (not_integral l t)) (unless (is bool_kind t) (not_boolean l t)))))

-- Only the type of `&e` may be none that the table has
abbrev pub unary_effect : (kind : ℕ) → Location → (name : ℕ) → Ty → Effect
unary_effect kind l name t =
    record { stores = []; errors = unary_errors kind l name t; met = cond (eqb kind kinds.pointer_take) (pointer t ∷ []) []; steps = cond (eqb kind kinds.pointer_take) 1 0 }

-- What the expression `node` of a kind adds to its operand e
pub record UnaryNode (kind : ℕ) (l : Location) (name : ℕ) (e node : Expression) : Type 0 where
  pub type : (ctx : Context) → expression_type ctx node ≡ unary_type kind name (expression_type ctx e)
  pub errors : (ctx : Context) → expression_errors ctx node ≡ expression_errors ctx e ++ unary_errors kind l name (expression_type ctx e)
  pub slots : (ctx : Context) → expression_slots ctx node ≡ slot l (expression_type ctx node) ∷ expression_slots ctx e

-- Operators on two operands, the records 37 and 44 to 46

pub record Operands : Type 0 where
  pub left : Ty
  pub right : Ty

abbrev pub binary_type : (kind : ℕ) → Operands → Ty
binary_type kind t =
    cond (eqb kind kinds.index) (part_of array_kind t.left)
    (cond (eqb kind kinds.boolean_and) t.left (cond (eqb kind kinds.arithmetic_bin_op) (arithmetic_type t.left t.right) bool))

-- `r` is the location of the right operand
abbrev pub binary_errors : (kind : ℕ) → (l r : Location) → (operator : ℕ) → Operands → List TypeError
binary_errors kind l r operator t =
    cond (eqb kind kinds.index) (unless (is u16_kind t.right) (invalid_index r t.right))
    (cond (eqb kind kinds.boolean_and)
    (unless (is bool_kind t.left) (left_not_boolean l t.left) ++ unless (is bool_kind t.right) (right_not_boolean l t.right))
    (arithmetic_errors l (cond (eqb kind kinds.arithmetic_bin_op) operator comparison_operator) t.left t.right))

abbrev pub operands_of : Context → (a b : Expression) → Operands
operands_of ctx a b = record { left = expression_type ctx a; right = expression_type ctx b }

-- What the expression `node` of a kind adds to its operands a and b
pub record BinaryNode (kind : ℕ) (l : Location) (operator : ℕ) (a b node : Expression) : Type 0 where
  pub type : (ctx : Context) → expression_type ctx node ≡ binary_type kind (operands_of ctx a b)
  pub errors : (ctx : Context)
      → expression_errors ctx node ≡ expression_errors ctx a ++ expression_errors ctx b ++ binary_errors kind l (location_of b) operator (operands_of ctx a b)
  pub slots : (ctx : Context) → expression_slots ctx node ≡ slot l (expression_type ctx node) ∷ expression_slots ctx a ++ expression_slots ctx b

-- Identifiers and literals, the records 32 and 33

abbrev pub identifier_errors : Context → Location → (name : ℕ) → List TypeError
identifier_errors ctx l name = unless (is_some (resolve_identifier ctx name)) (unknown_identifier l name)

abbrev pub integer_errors : Location → (base : ℕ) → (digits : List ℕ) → List TypeError
integer_errors l base digits = unless (is_some (from_str_radix base digits)) (literal_out_of_range l)

-- Promises in words, with or without room. No working word is changed and no slot is stored

pub record ReportedUnless (holds : Bool) (error : Error) (errors : List ℕ) (state : State) (errors' : List ℕ) (state' : State) : Type 0 where
  pub none : holds ≡ true → (errors' ≡ errors) × (state' ≡ state)
  pub one : holds ≡ false → Reported errors state error errors' state'

-- The row given shows a type, and these errors are told
pub record GivesRow (type : Ty) (told : List TypeError) (rows errors : List ℕ) (state : State) (errors' : List ℕ) (r : Typed) : Type 0 where
  pub shows : Shows rows state.rows r.ty type
  pub tells : Tells rows told errors state errors' r.state

-- An identifier: the row in the working words of its name. Its error names no row, so it spells the same whatever rows are lent
pub record Identifier (s work : List ℕ) (at : ℕ) (errors : List ℕ) (state : State) (errors' : List ℕ) (r : Typed) : Type 0 where
  pub row : r.ty ≡ or_unknown_row (resolved_word work (word_at s (field_end at)))
  pub tells : (rows : List ℕ)
      → Tells rows (unless (not (eqb (resolved_word work (word_at s (field_end at))) 0)) (unknown_identifier (location_at s at) (word_at s (field_end at))))
      errors state errors' r.state

-- The digits of the literal at a place: what follows its two fields
abbrev pub digits_at : (s : List ℕ) → (at : ℕ) → List ℕ
digits_at s at = take (stop_at s at - (fields_end at)) (drop (fields_end at) s)

-- A literal: the row of u16, even where it is out of range
-- The error of the bad literal at a place of the file
abbrev pub literal_error : List ℕ → (at : ℕ) → Error
literal_error s at =
    record {
      kind = literal_kind;
      file = half_at s (at + 6);
      line = word_at s (at + 8);
      column = word_at s (at + 12);
      first = 0;
      second = 0;
      third = 0;
      place = at;
    }

pub record Integer (s : List ℕ) (at : ℕ) (errors : List ℕ) (state : State) (errors' : List ℕ) (r : Typed) : Type 0 where
  pub row : r.ty ≡ u16_kind
  pub tells : (rows : List ℕ) → Tells rows (integer_errors (location_at s at) (word_at s (field_end at)) (digits_at s at)) errors state errors' r.state

-- An operator on one operand, at the record at a place, that makes no row
abbrev pub UnaryKept : (kind : ℕ) (s : List ℕ) (at ty : ℕ) (rows errors : List ℕ) (state : State) (errors' : List ℕ) (r : Typed) → Type 0
UnaryKept kind s at ty rows =
    GivesRow (unary_type kind (word_at s (field_end at)) (unfolded rows ty)) (unary_errors kind (location_at s at) (word_at s (field_end at)) (unfolded rows ty)) rows

-- An operator on one operand: `&e` makes the row of a pointer, if it is not there
pub record Unary (kind : ℕ) (s : List ℕ) (at ty : ℕ) (rows index errors : List ℕ) (state : State) (rows' index' errors' : List ℕ) (r : Typed) : Type 0 where
  pub taken : kind ≡ kinds.pointer_take → Makes (Pointer ty) rows index state rows' index' r × (errors' ≡ errors)
  pub kept : (kind ≡ kinds.pointer_take → ⊥) → (rows' ≡ rows) × (index' ≡ index) × UnaryKept kind s at ty rows errors state errors' r

-- The types of two rows
abbrev pub row_types : (rows : List ℕ) → (left right : ℕ) → Operands
row_types rows left right = record { left = unfolded rows left; right = unfolded rows right }

-- An operator on two operands; the right stands at `place`
abbrev pub Binary : (kind : ℕ) (s : List ℕ) (at left place right : ℕ) (rows errors : List ℕ) (state : State) (errors' : List ℕ) (r : Typed) → Type 0
Binary kind s at left place right rows =
    GivesRow (binary_type kind (row_types rows left right))
    (binary_errors kind (location_at s at) (location_at s place) (word_at s (field_end at)) (row_types rows left right)) rows

-- `arithmetic_binop_result_type`
abbrev pub Arithmetic : (s : List ℕ) (at operator left right : ℕ) (rows errors : List ℕ) (state : State) (errors' : List ℕ) (r : Typed) → Type 0
Arithmetic s at operator left right rows =
    GivesRow (arithmetic_type (unfolded rows left) (unfolded rows right))
    (arithmetic_errors (location_at s at) operator (unfolded rows left) (unfolded rows right)) rows

-- A cast from the left to the right
abbrev pub cast_errors : Location → Operands → List TypeError
cast_errors l t = unless (is_castable_to t.left t.right) (invalid_cast l t.left t.right)

abbrev pub Cast : (s : List ℕ) (at source target : ℕ) (rows errors : List ℕ) (state : State) (errors' : List ℕ) (state' : State) → Type 0
Cast s at source target rows = Tells rows (cast_errors (location_at s at) (row_types rows source target))

-- A place of the left's type and a value of the right's
abbrev pub CheckAssignable : (s : List ℕ) (at target source : ℕ) (rows errors : List ℕ) (state : State) (errors' : List ℕ) (state' : State) → Type 0
CheckAssignable s at target source rows = Tells rows (check_assignable (location_at s at) (unfolded rows target) (unfolded rows source))

-- Promises by what is given, if there is room: the form of rules that read the types of parts back from their slots

-- The row of an operand shows a type; the rows of two operands do
abbrev pub One : (ty : ℕ) → Lent → Ty → Type 0
One ty C t = Typing C ty t

pub record Two (l r : ℕ) (C : Lent) (t : Operands) : Type 0 where
  pub left : Typing C l t.left
  pub right : Typing C r t.right

-- Whatever is given, the row returned shows its type, and the effect is done. The rows stay as they are, so any index of them may be lent
pub record Gives {X : Type 0} (Given : Lent → X → Type 0) (type : X → Ty) (effect : X → Effect)
    (rows errors : List ℕ) (state : State) (errors' : List ℕ) (r : Typed) : Type 0 where
  pub walked : (work output index : List ℕ) (from to : ℕ) → Good (lent work output errors rows index state)
      → WalkedTo (Given (lent work output errors rows index state)) type effect from to
      (lent work output errors rows index state) (lent work output errors' rows index r.state) r.ty

-- Whatever is given, the errors are reported; no row is made
pub record Checks {X : Type 0} (Given : Lent → X → Type 0) (told : X → List TypeError) (rows errors : List ℕ) (state : State) (errors' : List ℕ) (state' : State) : Type 0 where
  pub kept : state'.rows ≡ state.rows
  pub walked : (work output index : List ℕ) (from to : ℕ) → Good (lent work output errors rows index state)
      → Walked (Given (lent work output errors rows index state)) (λ x. reporting (told x)) from to
      (lent work output errors rows index state) (lent work output errors' rows index state')
