-- What holds of the names, operators and literals' places in records holds of those in the trees that the records are read as. Assumes nothing.
use Prim.Native.Nat.{ℕ}
use mathlib.Core.Path.{◌≡◌, refl, sym, ◌∙◌, ap, subst}
use mathlib.Core.Bool.{Bool, true, false, cond, ◌||◌}
use mathlib.Core.Option.{Option, none, some}
use mathlib.Core.List.{List, [], ◌∷◌}
use lib.Dec.{eqb}
use borrow.Author.Tests.{eqb-true}
use Rattle.shape.specs.Kinds as kinds
use Rattle.shape.specs.Shape.{shape_of}
use Rattle.shape.specs.declared.Rule.{Rule}
use Rattle.shape.specs.declared.Rule.TheVariants.{Unused, Slot, Name, Any, Base, Flag, Operator, Comparison, Flags}
use Rattle.trees.specs.Record.{RecordHead, Records, no_records, record_then, next, type_of, to_type, expression_list, first_expression, later_expressions, expression_of, to_expressions, to_expression}
use Rattle.trees.specs.Record.{to_compound_fields, compound_of, to_compound, to_initial_value, to_optional, statement_list, first_statement, later_statements, none_left, if_of, statement_of, to_statements, to_parameters, to_body, item_of, to_item}
use Rattle.trees.specs.Tree.{Location, TypeNode, name_type, void_type, pointer_type, array_type, struct_type, no_fields, field_then, Parameter, Expression, identifier, integer, boolean, string_literal, call, index, cast, pointer_take, pointer_dereference, field_access, bitwise_not, boolean_not, boolean_and, arithmetic_bin_op, comparison_bin_op, sizeof, no_expressions, expression_then}
use Rattle.trees.specs.Tree.{CompoundField, Compound, array_compound, struct_compound, InitialValue, no_value, assigned, compounded, Statement, block, expression, variable_declaration, assignment, compound_assignment, return, loop, while, break, «if», if_else, inline_assembly, no_statements, statement_then, Item, function_definition, type_alias, global_declaration, other_item}
use Rattle.meaning.specs.Context.{All}

-- The second of two tests, if the first fails
pub other_test : (x y : Bool) → x || y ≡ true → x ≡ false → y ≡ true
other_test x y e f = sym (ap (λ (z : Bool). z || y) f) ∙ e

-- The names of what pass 1 reads of an item
module _ (N : ℕ → Type 0) where
  unfoldable pub InType : TypeNode → Type 0
  InType (name_type l name) = N name
  InType (void_type l) = Unit {0}
  InType (pointer_type l t) = InType t
  InType (array_type l size t) = InType t
  InType (struct_type l fields) = InType fields
  InType no_fields = Unit {0}
  InType (field_then name t rest) = N name × (InType t × InType rest)

  abbrev pub InParameter : Parameter → Type 0
  InParameter p = InType p.type

  unfoldable pub InDeclaration : Item → Type 0
  InDeclaration (function_definition l name returned parameters body) = N name × (InType returned × All InParameter parameters)
  InDeclaration (type_alias l name is_distinct internal t) = N name × InType t
  InDeclaration (global_declaration l name t value) = InType t
  InDeclaration other_item = Unit {0}

-- Names, operators and the places of literals of the rest
module _ (N O L : ℕ → Type 0) where
  unfoldable pub InExpression : Expression → Type 0
  InExpression (identifier l name) = N name
  InExpression (integer l base digits) = L l.at
  InExpression (boolean l) = Unit {0}
  InExpression (string_literal l) = Unit {0}
  InExpression (call l target arguments) = InExpression target × InExpression arguments
  InExpression (index l target i) = InExpression target × InExpression i
  InExpression (cast l e t) = InExpression e × InType N t
  InExpression (pointer_take l e) = InExpression e
  InExpression (pointer_dereference l e) = InExpression e
  InExpression (field_access l name e) = N name × InExpression e
  InExpression (bitwise_not l e) = InExpression e
  InExpression (boolean_not l e) = InExpression e
  InExpression (boolean_and l a b) = InExpression a × InExpression b
  InExpression (arithmetic_bin_op l operator a b) = O operator × (InExpression a × InExpression b)
  InExpression (comparison_bin_op l operator a b) = InExpression a × InExpression b
  InExpression (sizeof l t) = InType N t
  InExpression no_expressions = Unit {0}
  InExpression (expression_then e rest) = InExpression e × InExpression rest

  abbrev pub InCompoundField : CompoundField → Type 0
  InCompoundField f = N f.name × InExpression f.value

  unfoldable pub InCompound : Compound → Type 0
  InCompound (array_compound l elements) = InExpression elements
  InCompound (struct_compound l fields) = All InCompoundField fields

  unfoldable pub InValue : InitialValue → Type 0
  InValue no_value = Unit {0}
  InValue (assigned e) = InExpression e
  InValue (compounded c) = InCompound c

  unfoldable pub InOptional : Option Expression → Type 0
  InOptional none = Unit {0}
  InOptional (some e) = InExpression e

  unfoldable pub InStatement : Statement → Type 0
  InStatement (block l members) = InStatement members
  InStatement (expression l e) = InExpression e
  InStatement (variable_declaration l name t value) = N name × (InType N t × InValue value)
  InStatement (assignment l target value) = InExpression target × InExpression value
  InStatement (compound_assignment l target value) = InExpression target × InCompound value
  InStatement (return l value) = InOptional value
  InStatement (loop l body) = InStatement body
  InStatement (while l condition body) = InExpression condition × InStatement body
  InStatement (break l) = Unit {0}
  InStatement («if» l condition body) = InExpression condition × InStatement body
  InStatement (if_else l condition trueBody false_body) = InExpression condition × (InStatement trueBody × InStatement false_body)
  InStatement (inline_assembly l) = Unit {0}
  InStatement no_statements = Unit {0}
  InStatement (statement_then s rest) = InStatement s × InStatement rest

  unfoldable pub InBody : Option Statement → Type 0
  InBody none = Unit {0}
  InBody (some s) = InStatement s

  -- What pass 2 reads of an item, and not pass 1
  unfoldable pub InCode : Item → Type 0
  InCode (function_definition l name returned parameters body) = InBody body
  InCode (type_alias l name is_distinct internal t) = Unit {0}
  InCode (global_declaration l name t value) = InValue value
  InCode other_item = Unit {0}

  pub record InItem (i : Item) : Type 0 where
    pub declared : InDeclaration N i
    pub code : InCode i

  -- A field that its rule says is a name or an operator
  abbrev pub InField : Rule → (value : ℕ) → Type 0
  InField Unused v = Unit {0}
  InField Slot v = Unit {0}
  InField Name v = N v
  InField Any v = Unit {0}
  InField Base v = Unit {0}
  InField Flag v = Unit {0}
  InField Operator v = O v
  InField Comparison v = Unit {0}
  InField Flags v = Unit {0}

  -- Records that are read as the fields of a struct compound
  unfoldable pub InNames : Records → Type 0
  InNames no_records = Unit {0}
  InNames (record_then h s children rest) = N h.first × InNames rest

  -- A record that is read as a compound, and is no array
  abbrev pub InStruct : Records → Type 0
  InStruct no_records = Unit {0}
  InStruct (record_then h s children rest) = eqb h.kind kinds.array_compound ≡ false → InNames children

  -- A record with its children
  pub record InRecord (h : RecordHead) (children : Records) : Type 0 where
    pub first : InField (shape_of h.kind).first h.first
    pub second : InField (shape_of h.kind).second h.second
    pub literal : eqb h.kind kinds.integer ≡ true → L h.location.at
    pub fields : eqb h.kind kinds.struct_compound ≡ true → InNames children
    pub target : eqb h.kind kinds.compound_assignment ≡ true → InStruct (next children)

  unfoldable pub InRecords : Records → Type 0
  InRecords no_records = Unit {0}
  InRecords (record_then h s children rest) = InRecord h children × (InRecords children × InRecords rest)

  -- By a test
  picked : {A : Type 0} (P : A → Type 0) (x : Bool) {a b : A} → (x ≡ true → P a) → P b → P (cond x a b)
  picked P true p q = p refl
  picked P false p q = q

  -- The fields of a record of a known kind
  module _ (h : RecordHead) (children : Records) (p : InRecord h children) where
    first_field : (k : ℕ) → eqb h.kind k ≡ true → InField (shape_of k).first h.first
    first_field k e = subst (λ (j : ℕ). InField (shape_of j).first h.first) (eqb-true h.kind k e) p.first

    second_field : (k : ℕ) → eqb h.kind k ≡ true → InField (shape_of k).second h.second
    second_field k e = subst (λ (j : ℕ). InField (shape_of j).second h.second) (eqb-true h.kind k e) p.second

  -- Types
  type_of_lem : (h : RecordHead) (children : Records) (t rest : TypeNode) → InRecord h children → InType N t → InType N rest → InType N (type_of h t rest)
  unfolding InType shape_of
  type_of_lem h c t rest p a b =
      let P = InType N in
      picked P (eqb h.kind kinds.named_type) (second_field h c p kinds.named_type) (picked P (eqb h.kind kinds.void_type) (λ _. tt)
      (picked P (eqb h.kind kinds.pointer_type) (λ _. a) (picked P (eqb h.kind kinds.array_type) (λ _. a)
      (picked P (eqb h.kind kinds.struct_type) (λ _. a) (picked P (eqb h.kind kinds.field) (λ e. (first_field h c p kinds.field e, (a, b))) tt)))))

  type : (r : Records) → InRecords r → InType N (to_type r)
  unfolding InRecords InType to_type
  type no_records p = tt
  type (record_then h s children rest) p = type_of_lem h children (to_type children) (to_type rest) p.0 (type children p.1.0) (type rest p.1.1)

  following : (r : Records) → InRecords r → InRecords (next r)
  unfolding InRecords
  following no_records p = tt
  following (record_then h s children rest) p = p.1.1

  -- Expressions
  first_of_lem : (es : List Expression) → All InExpression es → InExpression (first_expression es)
  unfolding All InExpression
  first_of_lem [] p = tt
  first_of_lem (e ∷ es) p = p.0

  later_of : (es : List Expression) → All InExpression es → All InExpression (later_expressions es)
  unfolding All
  later_of [] p = tt
  later_of (e ∷ es) p = p.1

  list_of : (es : List Expression) → All InExpression es → InExpression (expression_list es)
  unfolding All InExpression expression_list
  list_of [] p = tt
  list_of (e ∷ es) p = (p.0, list_of es p.1)

  expression_of_lem : (h : RecordHead) (children : Records) (s : List ℕ) (es : List Expression) (t u : TypeNode)
      → InRecord h children → All InExpression es → InType N t → InType N u → InExpression (expression_of h s es t u)
  unfolding InExpression shape_of
  expression_of_lem h c s es t u p q a b =
      let one = first_of_lem es q in
      let two = first_of_lem (later_expressions es) (later_of es q) in
      let more = list_of (later_expressions es) (later_of es q) in
      let P = InExpression in
      let named = second_field h c p in
      picked P (eqb h.kind kinds.identifier) (named kinds.identifier) (picked P (eqb h.kind kinds.integer) p.literal
      (picked P (eqb h.kind kinds.boolean) (λ _. tt) (picked P (eqb h.kind kinds.string) (λ _. tt)
      (picked P (eqb h.kind kinds.call) (λ _. (one, more)) (picked P (eqb h.kind kinds.index) (λ _. (one, two))
      (picked P (eqb h.kind kinds.cast) (λ _. (one, b)) (picked P (eqb h.kind kinds.pointer_take) (λ _. one)
      (picked P (eqb h.kind kinds.pointer_dereference) (λ _. one) (picked P (eqb h.kind kinds.field_access) (λ e. (named kinds.field_access e, one))
      (picked P (eqb h.kind kinds.bitwise_not) (λ _. one) (picked P (eqb h.kind kinds.boolean_not) (λ _. one)
      (picked P (eqb h.kind kinds.boolean_and) (λ _. (one, two)) (picked P (eqb h.kind kinds.arithmetic_bin_op) (λ e. (named kinds.arithmetic_bin_op e, (one, two)))
      (picked P (eqb h.kind kinds.comparison_bin_op) (λ _. (one, two)) (picked P (eqb h.kind kinds.sizeof) (λ _. a) tt)))))))))))))))

  expressions : (r : Records) → InRecords r → All InExpression (to_expressions r)
  unfolding InRecords All to_expressions
  expressions no_records p = tt
  expressions (record_then h s children rest) p =
      let inner = p.1.0 in (
        expression_of_lem h children s (to_expressions children) (to_type children) (to_type (next children)) p.0
            (expressions children inner) (type children inner) (type (next children) (following children inner)),
        expressions rest p.1.1,
      )

  one_expression : (r : Records) → InRecords r → InExpression (to_expression r)
  one_expression r p = first_of_lem (to_expressions r) (expressions r p)

  -- Compounds
  compound_fields : (r : Records) → InNames r → InRecords r → All InCompoundField (to_compound_fields r)
  unfolding InNames InRecords All to_compound_fields
  compound_fields no_records n p = tt
  compound_fields (record_then h s children rest) n p = ((n.0, one_expression children p.1.0), compound_fields rest n.1 p.1.1)

  compound_of_lem : (h : RecordHead) (children : Records) → (eqb h.kind kinds.array_compound ≡ false → InNames children) → InRecords children → InCompound (compound_of h children)
  unfolding InCompound
  compound_of_lem h children n p = go (eqb h.kind kinds.array_compound) n
    where
      go : (x : Bool) → (x ≡ false → InNames children)
          → InCompound (cond x (array_compound h.location (expression_list (to_expressions children))) (struct_compound h.location (to_compound_fields children)))
      go true m = list_of (to_expressions children) (expressions children p)
      go false m = compound_fields children (m refl) p

  compound : (r : Records) → InStruct r → InRecords r → InCompound (to_compound r)
  unfolding InRecords InCompound All
  compound no_records n p = tt
  compound (record_then h s children rest) n p = compound_of_lem h children n p.1.0

  value : (r : Records) → InRecords r → InValue (to_initial_value r)
  unfolding InRecords InValue
  value no_records p = tt
  value (record_then h s children rest) p =
      picked InValue (eqb h.kind kinds.array_compound || eqb h.kind kinds.struct_compound)
      (λ e. compound_of_lem h children (λ f. p.0.fields (other_test (eqb h.kind kinds.array_compound) (eqb h.kind kinds.struct_compound) e f)) p.1.0)
      (one_expression (record_then h s children rest) p)

  optional : (r : Records) → InRecords r → InOptional (to_optional r)
  unfolding InRecords InOptional
  optional no_records p = tt
  optional (record_then h s children rest) p = one_expression (record_then h s children rest) p

  -- Statements
  first_statement_lem : (ts : List Statement) → All InStatement ts → InStatement (first_statement ts)
  unfolding All InStatement
  first_statement_lem [] p = tt
  first_statement_lem (t ∷ ts) p = p.0

  later_statements_lem : (ts : List Statement) → All InStatement ts → All InStatement (later_statements ts)
  unfolding All
  later_statements_lem [] p = tt
  later_statements_lem (t ∷ ts) p = p.1

  statement_list_lem : (ts : List Statement) → All InStatement ts → InStatement (statement_list ts)
  unfolding All InStatement statement_list
  statement_list_lem [] p = tt
  statement_list_lem (t ∷ ts) p = (p.0, statement_list_lem ts p.1)

  if_of_lem : (l : Location) (condition : Expression) (sides : List Statement) → InExpression condition → All InStatement sides → InStatement (if_of l condition sides)
  unfolding InStatement
  if_of_lem l condition sides p q =
      let one = first_statement_lem sides q in
      picked InStatement (none_left (later_statements sides)) (λ _. (p, one)) (p, (one, first_statement_lem (later_statements sides) (later_statements_lem sides q)))

  statement_of_lem : (h : RecordHead) (children : Records) (ts : List Statement) → InRecord h children → InRecords children → All InStatement ts → InStatement (statement_of h children ts)
  unfolding InStatement shape_of
  statement_of_lem h c ts r p q =
      let e = one_expression c p in
      let after = following c p in
      let P = InStatement in
      picked P (eqb h.kind kinds.block) (λ _. statement_list_lem ts q) (picked P (eqb h.kind kinds.expression_statement) (λ _. e)
      (picked P (eqb h.kind kinds.variable_declaration) (λ k. (first_field h c r kinds.variable_declaration k, (type c p, value (next c) after)))
      (picked P (eqb h.kind kinds.assignment) (λ _. (e, one_expression (next c) after))
      (picked P (eqb h.kind kinds.compound_assignment) (λ k. (e, compound (next c) (r.target k) after))
      (picked P (eqb h.kind kinds.return) (λ _. optional c p) (picked P (eqb h.kind kinds.loop) (λ _. first_statement_lem ts q)
      (picked P (eqb h.kind kinds.while) (λ _. (e, first_statement_lem (later_statements ts) (later_statements_lem ts q))) (picked P (eqb h.kind kinds.break) (λ _. tt)
      (picked P (eqb h.kind kinds.if_statement) (λ _. if_of_lem h.location (to_expression c) (later_statements ts) e (later_statements_lem ts q))
      (picked P (eqb h.kind kinds.inline_assembly) (λ _. tt) tt))))))))))

  statements : (r : Records) → InRecords r → All InStatement (to_statements r)
  unfolding InRecords All to_statements
  statements no_records p = tt
  statements (record_then h s children rest) p =
      (statement_of_lem h children (to_statements children) p.0 p.1.0 (statements children p.1.0), statements rest p.1.1)

  -- Items
  parameters : (r : Records) → InRecords r → All (InParameter N) (to_parameters r)
  unfolding InRecords All to_parameters
  parameters no_records p = tt
  parameters (record_then h s children rest) p =
      picked (All (InParameter N)) (eqb h.kind kinds.parameter) (λ _. (type children p.1.0, parameters rest p.1.1)) tt

  body : (r : Records) → InRecords r → InBody (to_body r)
  unfolding InRecords InBody to_body
  body no_records p = tt
  body (record_then h s children rest) p =
      picked InBody (eqb h.kind kinds.parameter) (λ _. body rest p.1.1)
      (statement_of_lem h children (to_statements children) p.0 p.1.0 (statements children p.1.0))

  item_of_lem : (h : RecordHead) (children : Records) → InRecord h children → InRecords children → InItem (item_of h children)
  unfolding InDeclaration InCode shape_of
  item_of_lem h c r p =
      let after = following c p in
      let returned = type c p in
      picked InItem (eqb h.kind kinds.function_definition)
      (λ e. record { declared = (first_field h c r kinds.function_definition e, (returned, parameters (next c) after)); code = body (next c) after })
      (picked InItem (eqb h.kind kinds.type_alias) (λ e. record { declared = (first_field h c r kinds.type_alias e, returned); code = tt })
      (picked InItem (eqb h.kind kinds.global_declaration) (λ _. record { declared = returned; code = value (next c) after })
      (record { declared = tt; code = tt })))

  pub item : (r : Records) → InRecords r → InItem (to_item r)
  unfolding InRecords InDeclaration InCode
  item no_records p = record { declared = tt; code = tt }
  item (record_then h s children rest) p = item_of_lem h children p.0 p.1.0
