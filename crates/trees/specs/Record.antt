-- From an item's own bytes to its tree. Nothing here depends on where the item stands in the module.
use Rattle.std.specs.Prelude.{ℕ, zero, suc, ◌+◌, ◌-◌, Bool, true, false, cond, ◌||◌, not, List, [], ◌∷◌, ◌++◌, eqb, ltb, length, take, drop}
use Rattle.std.proofs.Math.Option.{Option, none, some}
use Rattle.shape.specs.Kinds as kinds
use Rattle.shape.specs.Shape.{shape_of, due_in}
use Rattle.shape.specs.declared.Rule.{Rule}
use Rattle.shape.specs.declared.Rule.TheVariants.{Unused, Slot, Name, Any, Base, Flag, Operator, Comparison, Flags}
use Rattle.record_bytes.specs.Bytes.{half_at, word_at, head_size, head_end, field_end}
use Rattle.names.specs.Names.{stands}
use Rattle.layout.specs.Layout.{kind_at, start_at, stop_at}
use Rattle.trees.specs.Tree.{Location, location, TypeNode, name_type, void_type, pointer_type, array_type, struct_type}
use Rattle.trees.specs.Tree.{no_fields, field_then}
use Rattle.trees.specs.Tree.{Expression, identifier, integer, boolean, string_literal, call, index, cast}
use Rattle.trees.specs.Tree.{pointer_take, pointer_dereference, field_access, bitwise_not, boolean_not, boolean_and}
use Rattle.trees.specs.Tree.{arithmetic_bin_op, comparison_bin_op, sizeof, no_expressions, expression_then}
use Rattle.trees.specs.Tree.{CompoundField, Compound, array_compound, struct_compound, InitialValue, no_value}
use Rattle.trees.specs.Tree.{assigned, compounded}
use Rattle.trees.specs.Tree.{Statement, block, expression, variable_declaration, assignment, compound_assignment}
use Rattle.trees.specs.Tree.{return, loop, while, break, «if», if_else, inline_assembly, no_statements}
use Rattle.trees.specs.Tree.{statement_then}
use Rattle.trees.specs.Tree.{Parameter, Item, function_definition, type_alias, global_declaration, other_item}

-- What a record says before its children: where it stands, its kind, its first two fields (0 where its kind has none)
pub record RecordHead : Type 0 where
  pub location : Location
  pub kind : ℕ
  pub first : ℕ
  pub second : ℕ

-- A list of records: the first with its free bytes and its children, then the next
pub data Records : Type 0 where
  no_records : Records
  record_then : RecordHead → (bytes : List ℕ) → (children next : Records) → Records

-- What the list of records says of a kind: how many fields it has, whether bytes follow them, whether its first field is a slot
abbrev pub field_count : (kind : ℕ) → ℕ
field_count kind = (shape_of kind).fields

abbrev pub holds_free_bytes : (kind : ℕ) → Bool
holds_free_bytes kind = (due_in (shape_of kind).holds).free

abbrev pub is_slot : Rule → Bool
is_slot Unused = false
is_slot Slot = true
is_slot Name = false
is_slot Any = false
is_slot Base = false
is_slot Flag = false
is_slot Operator = false
is_slot Comparison = false
is_slot Flags = false

abbrev pub has_slot : (kind : ℕ) → Bool
has_slot kind = is_slot (shape_of kind).first

abbrev pub location_at : List ℕ → (at : ℕ) → Location
location_at s at = location at (half_at s (at + 6)) (word_at s (at + 8)) (word_at s (at + 12))

-- The head of a record of a kind
abbrev pub record_head_of : (kind : ℕ) → List ℕ → (at : ℕ) → RecordHead
record_head_of k s at =
    record {
      location = location_at s at;
      kind = k;
      first = cond (ltb 0 (field_count k)) (word_at s (head_end at)) 0;
      second = cond (ltb 1 (field_count k)) (word_at s (field_end at)) 0;
    }

abbrev pub record_head_at : List ℕ → (at : ℕ) → RecordHead
record_head_at s at = record_head_of (kind_at s at) s at

-- What follows a record's fields, as bytes
abbrev pub bytes_at : List ℕ → (at : ℕ) → List ℕ
bytes_at s at = take (stop_at s at - start_at s at) (drop (start_at s at) s)

-- Goes on only if a test holds
abbrev pub go_on : {A : Type 0} → Bool → (Unit {0} → A) → A → A
go_on true f stop = f tt
go_on false f stop = stop

-- A record with its children, and the records after it, each worked out only if it is there; `levels` gives the children
abbrev pub record_with : (levels : ℕ → ℕ → Records) → List ℕ → (at : ℕ) → (rest : Records) → Records
record_with levels s at rest =
    record_then (record_head_at s at) (bytes_at s at) (go_on (not (holds_free_bytes (kind_at s at))) (λ _. levels (start_at s at) (stop_at s at)) no_records) rest

-- The records that follow each other from `at` to `end`; the first number bounds how many
unfoldable pub records_with : (fuel : ℕ) → (levels : ℕ → ℕ → Records) → List ℕ → (at end : ℕ) → Records
records_with zero levels s at end = no_records
records_with (suc n) levels s at end = go_on (stands s at end) (λ _. record_with levels s at (records_with n levels s (stop_at s at) end)) no_records

-- The records from `at` to `end`, so many levels deep
unfoldable pub records_at : List ℕ → (depth at end : ℕ) → Records
records_at s zero at end = no_records
records_at s (suc d) at end = records_with (suc (length s)) (records_at s d) s at end

abbrev pub next : Records → Records
next no_records = no_records
next (record_then h s children rest) = rest

abbrev pub is_none : Records → Bool
is_none no_records = true
is_none (record_then h s children rest) = false

-- T: `children` and `rest` are the children and the records after it, as types
abbrev pub type_of : RecordHead → (children rest : TypeNode) → TypeNode
type_of h children rest =
    cond (eqb h.kind kinds.named_type) (name_type h.location h.second)
    (cond (eqb h.kind kinds.void_type) (void_type h.location)
    (cond (eqb h.kind kinds.pointer_type) (pointer_type h.location children)
    (cond (eqb h.kind kinds.array_type) (array_type h.location h.second children)
    (cond (eqb h.kind kinds.struct_type) (struct_type h.location children) (cond (eqb h.kind kinds.field) (field_then h.first children rest) no_fields)))))

unfoldable pub to_type : Records → TypeNode
to_type no_records = no_fields
to_type (record_then h s children rest) = type_of h (to_type children) (to_type rest)

-- A list of expressions, as it stands in a tree
unfoldable pub expression_list : List Expression → Expression
expression_list [] = no_expressions
expression_list (e ∷ es) = expression_then e (expression_list es)

abbrev pub first_expression : List Expression → Expression
first_expression [] = no_expressions
first_expression (e ∷ es) = e

abbrev pub later_expressions : List Expression → List Expression
later_expressions [] = []
later_expressions (e ∷ es) = es

abbrev pub second_expression : List Expression → Expression
second_expression es = first_expression (later_expressions es)

-- E: `es` are the children as expressions, `t` and `u` the first and the second child as a type
abbrev pub expression_of : RecordHead → (bytes : List ℕ) → (es : List Expression) → (t u : TypeNode) → Expression
expression_of h s es t u =
    cond (eqb h.kind kinds.identifier) (identifier h.location h.second)
    (cond (eqb h.kind kinds.integer) (integer h.location h.second s)
    (cond (eqb h.kind kinds.boolean) (boolean h.location)
    (cond (eqb h.kind kinds.string) (string_literal h.location)
    (cond (eqb h.kind kinds.call) (call h.location (first_expression es) (expression_list (later_expressions es)))
    (cond (eqb h.kind kinds.index) (index h.location (first_expression es) (second_expression es))
    (cond (eqb h.kind kinds.cast) (cast h.location (first_expression es) u)
    (cond (eqb h.kind kinds.pointer_take) (pointer_take h.location (first_expression es))
    (cond (eqb h.kind kinds.pointer_dereference) (pointer_dereference h.location (first_expression es))
    (cond (eqb h.kind kinds.field_access) (field_access h.location h.second (first_expression es))
    (cond (eqb h.kind kinds.bitwise_not) (bitwise_not h.location (first_expression es))
    (cond (eqb h.kind kinds.boolean_not) (boolean_not h.location (first_expression es))
    (cond (eqb h.kind kinds.boolean_and) (boolean_and h.location (first_expression es) (second_expression es))
    (cond (eqb h.kind kinds.arithmetic_bin_op) (arithmetic_bin_op h.location h.second (first_expression es) (second_expression es))
    (cond (eqb h.kind kinds.comparison_bin_op) (comparison_bin_op h.location h.second (first_expression es) (second_expression es))
    (cond (eqb h.kind kinds.sizeof) (sizeof h.location t) no_expressions)))))))))))))))

unfoldable pub to_expressions : Records → List Expression
to_expressions no_records = []
to_expressions (record_then h s children rest) = expression_of h s (to_expressions children) (to_type children) (to_type (next children)) ∷ to_expressions rest

abbrev pub to_expression : Records → Expression
to_expression r = first_expression (to_expressions r)

-- Records 50
unfoldable pub to_compound_fields : Records → List CompoundField
to_compound_fields no_records = []
to_compound_fields (record_then h s children rest) = record { location = h.location; name = h.first; value = to_expression children } ∷ to_compound_fields rest

-- C
abbrev pub compound_of : RecordHead → (children : Records) → Compound
compound_of h children =
    cond (eqb h.kind kinds.array_compound) (array_compound h.location (expression_list (to_expressions children))) (struct_compound h.location (to_compound_fields children))

abbrev pub to_compound : Records → Compound
to_compound no_records = struct_compound (location 0 0 0 0) []
to_compound (record_then h s children rest) = compound_of h children

-- Nothing, E or C
abbrev pub to_initial_value : Records → InitialValue
to_initial_value no_records = no_value
to_initial_value (record_then h s children rest) =
    cond (eqb h.kind kinds.array_compound || eqb h.kind kinds.struct_compound) (compounded (compound_of h children)) (assigned (to_expression (record_then h s children rest)))

-- Nothing or E
abbrev pub to_optional : Records → Option Expression
to_optional no_records = none
to_optional (record_then h s children rest) = some (to_expression (record_then h s children rest))

-- A list of statements, as it stands in a tree
unfoldable pub statement_list : List Statement → Statement
statement_list [] = no_statements
statement_list (t ∷ ts) = statement_then t (statement_list ts)

abbrev pub first_statement : List Statement → Statement
first_statement [] = no_statements
first_statement (t ∷ ts) = t

abbrev pub later_statements : List Statement → List Statement
later_statements [] = []
later_statements (t ∷ ts) = ts

abbrev pub none_left : List Statement → Bool
none_left [] = true
none_left (t ∷ ts) = false

-- The sides of an if: `ts` are its condition's place and the statements after it
abbrev pub if_of : Location → (condition : Expression) → (sides : List Statement) → Statement
if_of l condition sides =
    cond (none_left (later_statements sides)) («if» l condition (first_statement sides)) (if_else l condition (first_statement sides) (first_statement (later_statements sides)))

-- S: `ts` are the children as statements
abbrev pub statement_of : RecordHead → (children : Records) → (ts : List Statement) → Statement
statement_of h children ts =
    cond (eqb h.kind kinds.block) (block h.location (statement_list ts))
    (cond (eqb h.kind kinds.expression_statement) (expression h.location (to_expression children))
    (cond (eqb h.kind kinds.variable_declaration) (variable_declaration h.location h.first (to_type children) (to_initial_value (next children)))
    (cond (eqb h.kind kinds.assignment) (assignment h.location (to_expression children) (to_expression (next children)))
    (cond (eqb h.kind kinds.compound_assignment) (compound_assignment h.location (to_expression children) (to_compound (next children)))
    (cond (eqb h.kind kinds.return) (return h.location (to_optional children))
    (cond (eqb h.kind kinds.loop) (loop h.location (first_statement ts))
    (cond (eqb h.kind kinds.while) (while h.location (to_expression children) (first_statement (later_statements ts)))
    (cond (eqb h.kind kinds.break) (break h.location)
    (cond (eqb h.kind kinds.if_statement) (if_of h.location (to_expression children) (later_statements ts))
    (cond (eqb h.kind kinds.inline_assembly) (inline_assembly h.location) no_statements))))))))))

unfoldable pub to_statements : Records → List Statement
to_statements no_records = []
to_statements (record_then h s children rest) = statement_of h children (to_statements children) ∷ to_statements rest

-- Records 85, then the body or nothing
unfoldable pub to_parameters : Records → List Parameter
to_parameters no_records = []
to_parameters (record_then h s children rest) = cond (eqb h.kind kinds.parameter) (record { name = h.first; type = to_type children } ∷ to_parameters rest) []

unfoldable pub to_body : Records → Option Statement
to_body no_records = none
to_body (record_then h s children rest) = cond (eqb h.kind kinds.parameter) (to_body rest) (some (statement_of h children (to_statements children)))

-- Flags: 1 distinct, 2 internal
abbrev pub is_distinct : (flags : ℕ) → Bool
is_distinct flags = eqb flags 1 || eqb flags 3

abbrev pub is_internal : (flags : ℕ) → Bool
is_internal flags = eqb flags 2 || eqb flags 3

abbrev pub item_of : RecordHead → (children : Records) → Item
item_of h children =
    cond (eqb h.kind kinds.function_definition) (function_definition h.location h.first (to_type children) (to_parameters (next children)) (to_body (next children)))
    (cond (eqb h.kind kinds.type_alias) (type_alias h.location h.first (is_distinct h.second) (is_internal h.second) (to_type children))
    (cond (eqb h.kind kinds.global_declaration) (global_declaration h.location h.first (to_type children) (to_initial_value (next children))) other_item))

abbrev pub to_item : Records → Item
to_item no_records = other_item
to_item (record_then h s children rest) = item_of h children

-- The records of an item, from its own bytes; items stand at depth 2 of 64
abbrev pub item_records : List ℕ → Records
item_records bytes = records_at bytes 63 0 (length bytes)

-- The tree of an item
unfoldable pub item_tree : List ℕ → Item
item_tree bytes = to_item (item_records bytes)

-- The places of the slots at any depth, in byte order
unfoldable pub slot_places : Records → List ℕ
slot_places no_records = []
slot_places (record_then h s children rest) =
    cond (has_slot h.kind) ((h.location.at + head_size) ∷ []) [] ++ slot_places children ++ slot_places rest

-- The places of an item's slots, from the start of the item
unfoldable pub item_slot_places : List ℕ → List ℕ
item_slot_places bytes = slot_places (item_records bytes)

-- The tree of one record by its place, and of the records from one place to another, so many levels deep
abbrev pub type_at : List ℕ → (depth at : ℕ) → TypeNode
type_at s d at = to_type (records_at s d at (stop_at s at))

abbrev pub fields_at : List ℕ → (depth from end : ℕ) → TypeNode
fields_at s d from end = to_type (records_at s d from end)

abbrev pub expression_at : List ℕ → (depth at : ℕ) → Expression
expression_at s d at = to_expression (records_at s d at (stop_at s at))

abbrev pub expressions_at : List ℕ → (depth from end : ℕ) → Expression
expressions_at s d from end = expression_list (to_expressions (records_at s d from end))

abbrev pub compound_at : List ℕ → (depth at : ℕ) → Compound
compound_at s d at = to_compound (records_at s d at (stop_at s at))

abbrev pub compound_fields_at : List ℕ → (depth from end : ℕ) → List CompoundField
compound_fields_at s d from end = to_compound_fields (records_at s d from end)

abbrev pub statement_at : List ℕ → (depth at : ℕ) → Statement
statement_at s d at = first_statement (to_statements (records_at s d at (stop_at s at)))

abbrev pub statements_at : List ℕ → (depth from end : ℕ) → Statement
statements_at s d from end = statement_list (to_statements (records_at s d from end))

-- The parameters of a function and its body, among the records from one place to another
abbrev pub parameters_at : List ℕ → (depth from end : ℕ) → List Parameter
parameters_at s d from end = to_parameters (records_at s d from end)

abbrev pub body_at : List ℕ → (depth from end : ℕ) → Option Statement
body_at s d from end = to_body (records_at s d from end)

-- An item by its place
abbrev pub item_tree_at : List ℕ → (depth at : ℕ) → Item
item_tree_at s d at = to_item (records_at s d at (stop_at s at))
