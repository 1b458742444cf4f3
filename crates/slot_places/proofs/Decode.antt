-- Records that differ only in their places decode to trees that do, and so to items that mean the same. Assumes nothing.
use Prim.Native.Nat.{ℕ}
use mathlib.Core.Path.{◌≡◌, refl, sym, ◌∙◌, ap, ap₂}
use mathlib.Core.Bool.{Bool, true, false, cond, ◌||◌}
use mathlib.Core.List.{List, [], ◌∷◌, map, map-id}
use mathlib.Core.Option.{some}
use lib.Dec.{eqb}
use Rattle.trees.specs.Tree.{Location, TypeNode, Expression, CompoundField, Statement, Parameter, Item}
use Rattle.trees.specs.Tree.{call, index, cast, pointer_take, pointer_dereference, field_access, bitwise_not, boolean_not, boolean_and, arithmetic_bin_op, comparison_bin_op, expression_then}
use Rattle.trees.specs.Tree.{array_compound, struct_compound, assigned, compounded, block, expression, variable_declaration, assignment, compound_assignment, return, loop, while, «if», if_else, statement_then}
use Rattle.trees.specs.Tree.{function_definition, type_alias, global_declaration}
use Rattle.trees.specs.Record.{RecordHead, Records, no_records, record_then, next, type_of, to_type, expression_list, first_expression, later_expressions, second_expression, expression_of, to_expressions, to_expression}
use Rattle.trees.specs.Record.{to_compound_fields, compound_of, to_compound, to_initial_value, to_optional, statement_list, first_statement, later_statements, none_left, if_of, statement_of, to_statements, to_parameters, to_body, is_distinct, is_internal, to_item}
use Rattle.meaning.specs.Module.{is_taken, alias_entries, global_entries, declaration_errors, declared_types, item_errors, item_slots}
use Rattle.slot_places.proofs.Move.{same_places, moved, placeless, move_type, move_expression, move_keeps, none_keeps}
use Rattle.slot_places.proofs.Change.{change_field, change_compound, change_value, change_option, change_statement, change_parameter, change_item, SameItem, same_item}

abbrev pub move_head : (ℕ → ℕ) → RecordHead → RecordHead
move_head g h = record { location = moved g h.location; kind = h.kind; first = h.first; second = h.second }

unfoldable pub move_records : (ℕ → ℕ) → Records → Records
move_records g no_records = no_records
move_records g (record_then h s children rest) = record_then (move_head g h) s (move_records g children) (move_records g rest)

-- By a test
either : {A B C : Type 0} (k : A → C) (f : B → C) (b : Bool) {x y : A} {v w : B} → k x ≡ f v → k y ≡ f w → k (cond b x y) ≡ f (cond b v w)
either k f true p q = p
either k f false p q = q

-- The statements without their places
abbrev bare : Statement → Statement
bare = change_statement (λ e. e) (λ t. t)

bare_list : (e : Expression → Expression) (t : TypeNode → TypeNode) (ts : List Statement) → change_statement e t (statement_list ts) ≡ statement_list (map (change_statement e t) ts)
unfolding statement_list change_statement
bare_list e t [] = refl
bare_list e t (s ∷ ts) = ap (statement_then (change_statement e t s)) (bare_list e t ts)

bare_first : (e : Expression → Expression) (t : TypeNode → TypeNode) (ts : List Statement) → change_statement e t (first_statement ts) ≡ first_statement (map (change_statement e t) ts)
unfolding change_statement
bare_first e t [] = refl
bare_first e t (s ∷ ts) = refl

bare_later : (f : Statement → Statement) (ts : List Statement) → map f (later_statements ts) ≡ later_statements (map f ts)
bare_later f [] = refl
bare_later f (s ∷ ts) = refl

bare_none : (f : Statement → Statement) (ts : List Statement) → none_left ts ≡ none_left (map f ts)
bare_none f [] = refl
bare_none f (s ∷ ts) = refl

module _ (g : ℕ → ℕ) where
  next_move : (r : Records) → next (move_records g r) ≡ move_records g (next r)
  unfolding move_records
  next_move no_records = refl
  next_move (record_then h s children rest) = refl

  -- Types
  type_of_lem : (h : RecordHead) (c r : TypeNode) → type_of (move_head g h) (move_type g c) (move_type g r) ≡ move_type g (type_of h c r)
  unfolding move_type
  type_of_lem h c r =
      either (λ x. x) (move_type g) (eqb h.kind 16) refl
      (either (λ x. x) (move_type g) (eqb h.kind 17) refl
      (either (λ x. x) (move_type g) (eqb h.kind 18) refl
      (either (λ x. x) (move_type g) (eqb h.kind 19) refl
      (either (λ x. x) (move_type g) (eqb h.kind 20) refl
      (either (λ x. x) (move_type g) (eqb h.kind 21) refl refl)))))

  type_move : (r : Records) → to_type (move_records g r) ≡ move_type g (to_type r)
  unfolding to_type move_records move_type
  type_move no_records = refl
  type_move (record_then h s children rest) = ap₂ (type_of (move_head g h)) (type_move children) (type_move rest) ∙ type_of_lem h (to_type children) (to_type rest)

  -- Expressions
  first_move : (es : List Expression) → first_expression (map (move_expression g) es) ≡ move_expression g (first_expression es)
  unfolding move_expression
  first_move [] = refl
  first_move (e ∷ es) = refl

  second_move : (es : List Expression) → second_expression (map (move_expression g) es) ≡ move_expression g (second_expression es)
  unfolding move_expression
  second_move [] = refl
  second_move (e ∷ es) = first_move es

  list_move : (es : List Expression) → expression_list (map (move_expression g) es) ≡ move_expression g (expression_list es)
  unfolding expression_list move_expression
  list_move [] = refl
  list_move (e ∷ es) = ap (expression_then (move_expression g e)) (list_move es)

  later_move : (es : List Expression) → expression_list (later_expressions (map (move_expression g) es)) ≡ move_expression g (expression_list (later_expressions es))
  unfolding expression_list move_expression
  later_move [] = refl
  later_move (e ∷ es) = list_move es

  expression_of_lem : (h : RecordHead) (s : List ℕ) (es : List Expression) (t u : TypeNode)
      → expression_of (move_head g h) s (map (move_expression g) es) (move_type g t) (move_type g u) ≡ move_expression g (expression_of h s es t u)
  unfolding move_expression
  expression_of_lem h s es t u =
      let l : Location = moved g h.location in
      let f = first_move es in
      let two = second_move es in
      either (λ x. x) (move_expression g) (eqb h.kind 32) refl
      (either (λ x. x) (move_expression g) (eqb h.kind 33) refl
      (either (λ x. x) (move_expression g) (eqb h.kind 34) refl
      (either (λ x. x) (move_expression g) (eqb h.kind 35) refl
      (either (λ x. x) (move_expression g) (eqb h.kind 36) (ap₂ (call l) f (later_move es))
      (either (λ x. x) (move_expression g) (eqb h.kind 37) (ap₂ (index l) f two)
      (either (λ x. x) (move_expression g) (eqb h.kind 38) (ap (λ x. cast l x (move_type g u)) f)
      (either (λ x. x) (move_expression g) (eqb h.kind 39) (ap (pointer_take l) f)
      (either (λ x. x) (move_expression g) (eqb h.kind 40) (ap (pointer_dereference l) f)
      (either (λ x. x) (move_expression g) (eqb h.kind 41) (ap (field_access l h.second) f)
      (either (λ x. x) (move_expression g) (eqb h.kind 42) (ap (bitwise_not l) f)
      (either (λ x. x) (move_expression g) (eqb h.kind 43) (ap (boolean_not l) f)
      (either (λ x. x) (move_expression g) (eqb h.kind 44) (ap₂ (boolean_and l) f two)
      (either (λ x. x) (move_expression g) (eqb h.kind 45) (ap₂ (arithmetic_bin_op l h.second) f two)
      (either (λ x. x) (move_expression g) (eqb h.kind 46) (ap₂ (comparison_bin_op l h.second) f two)
      (either (λ x. x) (move_expression g) (eqb h.kind 47) refl refl)))))))))))))))

  expressions_move : (r : Records) → to_expressions (move_records g r) ≡ map (move_expression g) (to_expressions r)
  unfolding to_expressions move_records
  expressions_move no_records = refl
  expressions_move (record_then h s children rest) =
      let second : to_type (next (move_records g children)) ≡ move_type g (to_type (next children)) = ap to_type (next_move children) ∙ type_move (next children) in
      λ i. ((λ j. expression_of (move_head g h) s (expressions_move children j) (type_move children j) (second j))
      ∙ expression_of_lem h s (to_expressions children) (to_type children) (to_type (next children))) i ∷ expressions_move rest i

  expression_move : (r : Records) → to_expression (move_records g r) ≡ move_expression g (to_expression r)
  expression_move r = ap first_expression (expressions_move r) ∙ first_move (to_expressions r)

  -- Compounds and initial values
  fields_move : (r : Records) → map (change_field (λ e. e)) (to_compound_fields (move_records g r)) ≡ map (change_field (move_expression g)) (to_compound_fields r)
  unfolding to_compound_fields move_records
  fields_move no_records = refl
  fields_move (record_then h s children rest) =
      ap₂ (λ (x : Expression) (y : List CompoundField). record { location = placeless h.location; name = h.first; value = x } ∷ y) (expression_move children) (fields_move rest)

  compound_of_lem : (h : RecordHead) (c : Records) → change_compound (λ e. e) (compound_of (move_head g h) (move_records g c)) ≡ change_compound (move_expression g) (compound_of h c)
  unfolding change_compound
  compound_of_lem h c =
      either (change_compound (λ e. e)) (change_compound (move_expression g)) (eqb h.kind 48)
      (ap (array_compound (placeless h.location)) (ap expression_list (expressions_move c) ∙ list_move (to_expressions c)))
      (ap (struct_compound (placeless h.location)) (fields_move c))

  compound_move : (r : Records) → change_compound (λ e. e) (to_compound (move_records g r)) ≡ change_compound (move_expression g) (to_compound r)
  unfolding change_compound move_records
  compound_move no_records = refl
  compound_move (record_then h s children rest) = compound_of_lem h children

  value_move : (r : Records) → change_value (λ e. e) (to_initial_value (move_records g r)) ≡ change_value (move_expression g) (to_initial_value r)
  unfolding change_value move_records
  value_move no_records = refl
  value_move (record_then h s children rest) =
      either (change_value (λ e. e)) (change_value (move_expression g)) (eqb h.kind 48 || eqb h.kind 49)
      (ap compounded (compound_of_lem h children)) (ap assigned (expression_move (record_then h s children rest)))

  optional_move : (r : Records) → change_option (λ e. e) (to_optional (move_records g r)) ≡ change_option (move_expression g) (to_optional r)
  unfolding move_records
  optional_move no_records = refl
  optional_move (record_then h s children rest) = ap (λ (x : Expression). some x) (expression_move (record_then h s children rest))

  -- Statements
  abbrev there : Statement → Statement
  there = change_statement (move_expression g) (move_type g)

  module _ (ts us : List Statement) (q : map bare ts ≡ map there us) where
    first_of_lem : bare (first_statement ts) ≡ there (first_statement us)
    first_of_lem = bare_first (λ e. e) (λ t. t) ts ∙ ap first_statement q ∙ sym (bare_first (move_expression g) (move_type g) us)

    list_of : bare (statement_list ts) ≡ there (statement_list us)
    list_of = bare_list (λ e. e) (λ t. t) ts ∙ ap statement_list q ∙ sym (bare_list (move_expression g) (move_type g) us)

    later_of : map bare (later_statements ts) ≡ map there (later_statements us)
    later_of = bare_later bare ts ∙ ap later_statements q ∙ sym (bare_later there us)

    none_of : none_left ts ≡ none_left us
    none_of = bare_none bare ts ∙ ap none_left q ∙ sym (bare_none there us)

  if_of_lem : (l : Location) (c d : Expression) (ts us : List Statement) → c ≡ move_expression g d → map bare ts ≡ map there us → bare (if_of (moved g l) c ts) ≡ there (if_of l d us)
  unfolding change_statement
  if_of_lem l c d ts us p q =
      let later = later_of ts us q in
      let first = first_of_lem ts us q in
      ap (λ b. bare (cond b («if» (moved g l) c (first_statement ts)) (if_else (moved g l) c (first_statement ts) (first_statement (later_statements ts))))) (none_of (later_statements ts) (later_statements us) later)
      ∙ either bare there (none_left (later_statements us))
      (ap₂ («if» (placeless l)) p first)
      (λ i. if_else (placeless l) (p i) (first i) (first_of_lem (later_statements ts) (later_statements us) later i))

  statement_of_lem : (h : RecordHead) (c : Records) (ts us : List Statement) → map bare ts ≡ map there us → bare (statement_of (move_head g h) (move_records g c) ts) ≡ there (statement_of h c us)
  unfolding change_statement
  statement_of_lem h c ts us q =
      let l : Location = placeless h.location in
      let e = expression_move c in
      let later = later_of ts us q in
      either bare there (eqb h.kind 64) (ap (block l) (list_of ts us q))
      (either bare there (eqb h.kind 65) (ap (expression l) e)
      (either bare there (eqb h.kind 66)
      (ap₂ (variable_declaration l h.first) (type_move c) (ap (λ r. change_value (λ e. e) (to_initial_value r)) (next_move c) ∙ value_move (next c)))
      (either bare there (eqb h.kind 67) (ap₂ (assignment l) e (ap to_expression (next_move c) ∙ expression_move (next c)))
      (either bare there (eqb h.kind 68)
      (ap₂ (compound_assignment l) e (ap (λ r. change_compound (λ e. e) (to_compound r)) (next_move c) ∙ compound_move (next c)))
      (either bare there (eqb h.kind 69) (ap (return l) (optional_move c))
      (either bare there (eqb h.kind 70) (ap (loop l) (first_of_lem ts us q))
      (either bare there (eqb h.kind 71) (ap₂ (while l) e (first_of_lem (later_statements ts) (later_statements us) later))
      (either bare there (eqb h.kind 72) refl
      (either bare there (eqb h.kind 73) (if_of_lem h.location (to_expression (move_records g c)) (to_expression c) (later_statements ts) (later_statements us) e later)
      (either bare there (eqb h.kind 74) refl refl))))))))))

  statements_move : (r : Records) → map bare (to_statements (move_records g r)) ≡ map there (to_statements r)
  unfolding to_statements move_records
  statements_move no_records = refl
  statements_move (record_then h s children rest) =
      ap₂ ◌∷◌ (statement_of_lem h children (to_statements (move_records g children)) (to_statements children) (statements_move children)) (statements_move rest)

  -- Items
  parameters_move : (r : Records) → map (change_parameter (λ t. t)) (to_parameters (move_records g r)) ≡ map (change_parameter (move_type g)) (to_parameters r)
  unfolding to_parameters move_records
  parameters_move no_records = refl
  parameters_move (record_then h s children rest) =
      either (map (change_parameter (λ t. t))) (map (change_parameter (move_type g))) (eqb h.kind 85)
      (ap₂ (λ (x : TypeNode) (y : List Parameter). record { name = h.first; type = x } ∷ y) (type_move children) (parameters_move rest)) refl

  body_move : (r : Records) → change_option bare (to_body (move_records g r)) ≡ change_option there (to_body r)
  unfolding to_body move_records
  body_move no_records = refl
  body_move (record_then h s children rest) =
      either (change_option bare) (change_option there) (eqb h.kind 85) (body_move rest)
      (ap (λ (x : Statement). some x) (statement_of_lem h children (to_statements (move_records g children)) (to_statements children) (statements_move children)))

  item_move : (r : Records) → change_item (λ e. e) (λ t. t) (to_item (move_records g r)) ≡ change_item (move_expression g) (move_type g) (to_item r)
  unfolding change_item move_records
  item_move no_records = refl
  item_move (record_then h s children rest) =
      let l : Location = placeless h.location in
      let t = type_move children in
      let n = next_move children in
      either (change_item (λ e. e) (λ t. t)) (change_item (move_expression g) (move_type g)) (eqb h.kind 80)
      (λ i. function_definition l h.first (t i) ((ap (λ r. map (change_parameter (λ t. t)) (to_parameters r)) n ∙ parameters_move (next children)) i)
      ((ap (λ r. change_option bare (to_body r)) n ∙ body_move (next children)) i))
      (either (change_item (λ e. e) (λ t. t)) (change_item (move_expression g) (move_type g)) (eqb h.kind 81)
      (ap (type_alias l h.first (is_distinct h.second) (is_internal h.second)) t)
      (either (change_item (λ e. e) (λ t. t)) (change_item (move_expression g) (move_type g)) (eqb h.kind 83)
      (ap₂ (global_declaration l h.first) t (ap (λ r. change_value (λ e. e) (to_initial_value r)) n ∙ value_move (next children))) refl))

-- An item whose records stand elsewhere means the same, and its slots and bad literals stand elsewhere
pub moved_item : (g : ℕ → ℕ) (r : Records) → SameItem g (to_item (move_records g r)) (to_item r)
moved_item g r =
    let i : Item = to_item (move_records g r) in
    let a = same_item none_keeps i in
    let b = same_item (move_keeps g) (to_item r) in
    let e = item_move g r in
    record {
      taken = λ aliases. sym (a.taken aliases) ∙ ap (is_taken aliases) e ∙ b.taken aliases;
      aliases = λ ctx taken. sym (a.aliases ctx taken) ∙ ap (alias_entries ctx taken) e ∙ b.aliases ctx taken;
      globals = λ ctx. sym (a.globals ctx) ∙ ap (global_entries ctx) e ∙ b.globals ctx;
      errors1 = λ ctx taken. sym (a.errors1 ctx taken) ∙ ap (declaration_errors ctx taken) e ∙ b.errors1 ctx taken;
      types1 = λ ctx. sym (a.types1 ctx) ∙ ap (declared_types ctx) e ∙ b.types1 ctx;
      errors2 = λ ctx. sym (same_places (item_errors ctx i)) ∙ sym (a.errors2 ctx) ∙ ap (item_errors ctx) e ∙ b.errors2 ctx;
      slots = λ ctx. sym (map-id (item_slots ctx i)) ∙ sym (a.slots ctx) ∙ ap (item_slots ctx) e ∙ b.slots ctx;
    }
