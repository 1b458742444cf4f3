-- Errors of an item have the names, operators and literals' places of its tree: a clause for each form of the tree, a line for each kind of
-- error. Assumes nothing.
use Prim.Native.Nat.{ℕ, ◌+◌}
use native.Mathlib.Omega.{arith}
use mathlib.Core.Path.{◌≡◌, refl}
use mathlib.Core.Bool.{Bool, true, false, cond, not, ◌&&◌, ◌||◌, false≢true}
use mathlib.Core.Option.{Option, none, some}
use mathlib.Core.List.{List, [], ◌∷◌, ◌++◌}
use lib.Dec.{eqb, leb}
use lib.ListN.{length}
use borrow.Author.Tests.{leb-true}
use Rattle.shape.proofs.ShapeLaws.{and_both}
use Rattle.relations.specs.Relations.{types_are_assignable, is_castable_to}
use Rattle.literal.specs.Literal.{from_str_radix}
use Rattle.types.specs.Ty.{Ty, end, node, is, is_integral, desugar, first_of, second_of, size_of, cell_count, function_kind, struct_kind, array_kind, argument_kind, pointer_kind, u16_kind, bool_kind, bool, same, remove_aliasing, void}
use Rattle.fallible.specs.Operands.{error_kinds, operand_sort, literal_kind, mismatch_kind}
use Rattle.trees.specs.Tree.{Location, TypeNode, name_type, void_type, pointer_type, array_type, struct_type, no_fields, field_then, Parameter, Expression, identifier, integer, boolean, string_literal, call, index, cast, pointer_take, pointer_dereference, field_access, bitwise_not, boolean_not, boolean_and, arithmetic_bin_op, comparison_bin_op, sizeof, no_expressions, expression_then}
use Rattle.trees.specs.Tree.{CompoundField, Compound, array_compound, struct_compound, InitialValue, no_value, assigned, compounded, Statement, block, expression, variable_declaration, assignment, compound_assignment, return, loop, while, break, «if», if_else, inline_assembly, no_statements, statement_then, Item, function_definition, type_alias, global_declaration, other_item}
use Rattle.meaning.specs.TypeError.{TypeError, unless, unknown_type, no_built_in_for_internal, internal_mismatch, duplicate_alias, alias_of_built_in, paths_without_return, local_redefined, return_needs_value, unknown_identifier, argument_count, invalid_argument, not_callable, invalid_index, invalid_cast, not_a_pointer, no_fields as noFieldsError, no_such_field, not_integral, not_boolean, left_not_boolean, right_not_boolean, literal_out_of_range, invalid_operands, not_assignable, compound_length, array_compound_target, no_such_compound_field, struct_compound_target, field_twice}
use Rattle.meaning.specs.Context.{each, All, ModuleContext, Context, context, blank, is_some, type_named, resolve_identifier}
use Rattle.meaning.specs.Convert.{convert_node_type, conversion_errors}
use Rattle.meaning.specs.Expression.{location_of, expression_type, expression_errors, check_assignable, argument_errors, call_errors, field_errors, comparison_operator, field_type, computes, arithmetic_errors}
use Rattle.meaning.specs.Compound.{element_errors, field_fits, occurrences, compound_errors, initial_errors, global_initial_errors}
use Rattle.meaning.specs.Statement.{is_local, declare_local, context_after, condition_errors, statement_errors}
use Rattle.meaning.specs.Divergence.{do_all_paths_diverge}
use Rattle.meaning.specs.Module.{parameter_errors, function_context, body_errors, item_errors, alias_errors, declaration_errors}
use Rattle.meaning.specs.Words.{OperandOf, ErrorOf}
use Rattle.meaning.proofs.Members.{all_join, all_each}
use Rattle.meaning.proofs.TreeWords.{InType, InParameter, InDeclaration, InExpression, InCompoundField, InCompound, InValue, InOptional, InStatement, InBody, InCode, InItem}

-- A kind of the table of which only the operands are asked
abbrev pub ordinary : (kind : ℕ) → Bool
ordinary k = leb 1 k && leb k (length error_kinds) && not (eqb k literal_kind) && not (eqb k mismatch_kind)

absent : {A : Type 0} (b : Bool) → not b ≡ true → b ≡ true → A
absent true e f = absurd (false≢true e)
absent false e f = absurd (false≢true f)

module _ (N O L B : ℕ → Type 0) where
  pub record Errors (errors : List TypeError) : Type 0 where
    pub all : All (ErrorOf N O L B) errors

  pub nothing : Errors []
  unfolding All
  nothing = record { all = tt }

  pub both : {a b : List TypeError} → Errors a → Errors b → Errors (a ++ b)
  both {a = a} {b = b} f g = record { all = all_join (ErrorOf N O L B) a b f.all g.all }

  three : {a b c : List TypeError} → Errors a → Errors b → Errors c → Errors (a ++ b ++ c)
  three f g h = both (both f g) h

  either : (x : Bool) {a b : List TypeError} → Errors a → Errors b → Errors (cond x a b)
  either true f g = f
  either false f g = g

  single : {e : TypeError} → ErrorOf N O L B e → Errors (e ∷ [])
  unfolding All
  single p = record { all = (p, tt) }

  once : (x : Bool) {e : TypeError} → ErrorOf N O L B e → Errors (unless x e)
  once x p = either x nothing (single p)

  of_each : {A : Type 0} (Q : A → Type 0) (f : A → List TypeError) → ((x : A) → Q x → Errors (f x)) → (l : List A) → All Q l → Errors (each f l)
  of_each Q f h l p = record { all = all_each (ErrorOf N O L B) Q f (λ x q. (h x q).all) l p }

  -- An error of an ordinary kind
  told : (e : TypeError) → ordinary e.kind ≡ true → OperandOf N O L B (operand_sort e.kind 0) e.first → OperandOf N O L B (operand_sort e.kind 1) e.second
      → OperandOf N O L B (operand_sort e.kind 2) e.third → ErrorOf N O L B e
  told e o p q r =
      let k : ℕ = e.kind in
      let x = and_both (leb 1 k && leb k (length error_kinds) && not (eqb k literal_kind)) (not (eqb k mismatch_kind)) o in
      let y = and_both (leb 1 k && leb k (length error_kinds)) (not (eqb k literal_kind)) x.0 in
      let z = and_both (leb 1 k) (leb k (length error_kinds)) y.0 in
      record {
        low = leb-true 1 k z.0;
        high = leb-true k (length error_kinds) z.1;
        first = p;
        second = q;
        third = r;
        literal = absent (eqb k literal_kind) y.1;
        built_in = absent (eqb k mismatch_kind) x.1;
      }

  -- Conversion
  conversion : (ctx : ModuleContext) (t : TypeNode) → InType N t → Errors (conversion_errors ctx t)
  unfolding conversion_errors InType operand_sort
  conversion ctx (name_type l m) h = once (is_some (type_named ctx m)) (told (unknown_type l m) refl h tt tt)
  conversion ctx (void_type l) h = nothing
  conversion ctx (pointer_type l t) h = conversion ctx t h
  conversion ctx (array_type l size t) h = conversion ctx t h
  conversion ctx (struct_type l fields) h = conversion ctx fields h
  conversion ctx no_fields h = nothing
  conversion ctx (field_then name t rest) h = both (conversion ctx t h.1.0) (conversion ctx rest h.1.1)

  parameters : (ctx : ModuleContext) (ps : List Parameter) → All (InParameter N) ps → Errors (each (parameter_errors ctx) ps)
  parameters ctx ps h = of_each (InParameter N) (parameter_errors ctx) (λ p. conversion ctx p.type) ps h

  -- Expressions
  assignable : (l : Location) (target source : Ty) → Errors (check_assignable l target source)
  unfolding operand_sort
  assignable l target source = once (types_are_assignable target source) (told (not_assignable l target source) refl tt tt tt)

  argument_types : (l : Location) (i : ℕ) (ps given : Ty) → Errors (argument_errors l i ps given)
  unfolding argument_errors operand_sort
  argument_types l i end given = nothing
  argument_types l i (node kind t rest s n) given =
      either (is argument_kind given)
      (both (once (types_are_assignable t (first_of given)) (told (invalid_argument l i t (first_of given)) refl tt tt tt)) (argument_types l (i + 1) rest (second_of given))) nothing

  calls : (l : Location) (target arguments : Ty) → Errors (call_errors l target arguments)
  unfolding operand_sort
  calls l target arguments =
      either (is function_kind target)
      (both (once (eqb (cell_count (second_of target)) (cell_count arguments)) (told (argument_count l (cell_count (second_of target)) (cell_count arguments)) refl tt tt tt))
      (argument_types l 1 (second_of target) arguments))
      (single (told (not_callable l target) refl tt tt tt))

  field_access_lem : (l : Location) (name : ℕ) (t : Ty) → N name → Errors (field_errors l name t)
  unfolding operand_sort
  field_access_lem l name t h =
      either (is struct_kind (desugar t)) (once (is_some (field_type name t)) (told (no_such_field l t name) refl tt h tt)) (single (told (noFieldsError l t) refl tt tt tt))

  arithmetic : (l : Location) (operator : ℕ) (a b : Ty) → O operator → Errors (arithmetic_errors l operator a b)
  unfolding operand_sort
  arithmetic l operator a b h = once (computes (desugar a) (desugar b)) (told (invalid_operands l operator (desugar a) (desugar b)) refl h tt tt)

  -- A bad literal
  literal : (l : Location) → L l.at → ErrorOf N O L B (literal_out_of_range l)
  unfolding operand_sort
  literal l h = record { low = omega arith; high = omega arith; first = tt; second = tt; third = tt; literal = λ _. h; built_in = λ e. absurd (false≢true e) }

  module _ (nine : O comparison_operator) where
    expr : (ctx : Context) (e : Expression) → InExpression N O L e → Errors (expression_errors ctx e)
    unfolding expression_errors InExpression operand_sort
    expr ctx (identifier l name) h = once (is_some (resolve_identifier ctx name)) (told (unknown_identifier l name) refl h tt tt)
    expr ctx (integer l base digits) h = once (is_some (from_str_radix base digits)) (literal l h)
    expr ctx (boolean l) h = nothing
    expr ctx (string_literal l) h = nothing
    expr ctx (call l target arguments) h = three (expr ctx target h.0) (expr ctx arguments h.1) (calls l (expression_type ctx target) (expression_type ctx arguments))
    expr ctx (index l target i) h =
        three (expr ctx target h.0) (expr ctx i h.1) (once (is u16_kind (expression_type ctx i)) (told (invalid_index (location_of i) (expression_type ctx i)) refl tt tt tt))
    expr ctx (cast l e t) h =
        three (expr ctx e h.0) (conversion ctx.in_module t h.1)
        (once (is_castable_to (expression_type ctx e) (convert_node_type ctx.in_module t)) (told (invalid_cast l (expression_type ctx e) (convert_node_type ctx.in_module t)) refl tt tt tt))
    expr ctx (pointer_take l e) h = expr ctx e h
    expr ctx (pointer_dereference l e) h = both (expr ctx e h) (once (is pointer_kind (expression_type ctx e)) (told (not_a_pointer l (expression_type ctx e)) refl tt tt tt))
    expr ctx (field_access l name e) h = both (expr ctx e h.1) (field_access_lem l name (expression_type ctx e) h.0)
    expr ctx (bitwise_not l e) h = both (expr ctx e h) (once (is_integral (expression_type ctx e)) (told (not_integral l (expression_type ctx e)) refl tt tt tt))
    expr ctx (boolean_not l e) h = both (expr ctx e h) (once (is bool_kind (expression_type ctx e)) (told (not_boolean l (expression_type ctx e)) refl tt tt tt))
    expr ctx (boolean_and l a b) h =
        both (three (expr ctx a h.0) (expr ctx b h.1) (once (is bool_kind (expression_type ctx a)) (told (left_not_boolean l (expression_type ctx a)) refl tt tt tt)))
        (once (is bool_kind (expression_type ctx b)) (told (right_not_boolean l (expression_type ctx b)) refl tt tt tt))
    expr ctx (arithmetic_bin_op l operator a b) h =
        three (expr ctx a h.1.0) (expr ctx b h.1.1) (arithmetic l operator (expression_type ctx a) (expression_type ctx b) h.0)
    expr ctx (comparison_bin_op l operator a b) h =
        three (expr ctx a h.0) (expr ctx b h.1) (arithmetic l comparison_operator (expression_type ctx a) (expression_type ctx b) nine)
    expr ctx (sizeof l t) h = conversion ctx.in_module t h
    expr ctx no_expressions h = nothing
    expr ctx (expression_then e rest) h = both (expr ctx e h.0) (expr ctx rest h.1)

    -- Compounds
    elements : (l : Location) (element cells : Ty) → Errors (element_errors l element cells)
    unfolding element_errors
    elements l element end = nothing
    elements l element (node kind t rest s n) = both (assignable l element t) (elements l element rest)

    fits : (l : Location) (name : ℕ) (f : Option Ty) (value : Ty) → N name → Errors (field_fits l name f value)
    unfolding operand_sort
    fits l name none value h = single (told (no_such_compound_field l name) refl h tt tt)
    fits l name (some t) value h = assignable l t value

    compound : (ctx : Context) (target : Ty) (c : Compound) → InCompound N O L c → Errors (compound_errors ctx target c)
    unfolding compound_errors InCompound operand_sort
    compound ctx target (array_compound l es) h =
        both (expr ctx es h)
        (either (is array_kind (desugar target))
        (both (once (eqb (size_of (desugar target)) (cell_count (expression_type ctx es))) (told (compound_length l (size_of (desugar target)) (cell_count (expression_type ctx es))) refl tt tt tt))
        (elements l (first_of (desugar target)) (expression_type ctx es)))
        (single (told (array_compound_target l target) refl tt tt tt)))
    compound ctx target (struct_compound l fields) h =
        let F = InCompoundField N O L in
        three (of_each F (λ (f : CompoundField). expression_errors ctx f.value) (λ f p. expr ctx f.value p.1) fields h)
        (either (is struct_kind (desugar target))
        (of_each F (λ (f : CompoundField). field_fits f.location f.name (field_type f.name target) (expression_type ctx f.value))
        (λ f p. fits f.location f.name (field_type f.name target) (expression_type ctx f.value) p.0) fields h)
        (single (told (struct_compound_target l target) refl tt tt tt)))
        (of_each F (λ (f : CompoundField). unless (leb (occurrences f.name fields) 1) (field_twice f.location f.name))
        (λ f p. once (leb (occurrences f.name fields) 1) (told (field_twice f.location f.name) refl p.0 tt tt)) fields h)

    initial : (ctx : Context) (t : Ty) (v : InitialValue) → InValue N O L v → Errors (initial_errors ctx t v)
    unfolding initial_errors InValue
    initial ctx t no_value h = nothing
    initial ctx t (assigned e) h = both (expr ctx e h) (assignable (location_of e) t (expression_type ctx e))
    initial ctx t (compounded c) h = compound ctx t c h

    global_initial : (ctx : Context) (t : Ty) (v : InitialValue) → InValue N O L v → Errors (global_initial_errors ctx t v)
    unfolding global_initial_errors InValue
    global_initial ctx t no_value h = nothing
    global_initial ctx t (assigned e) h = expr ctx e h
    global_initial ctx t (compounded c) h = compound ctx t c h

    -- Statements
    conditions : (ctx : Context) (l : Location) (e : Expression) → InExpression N O L e → Errors (condition_errors ctx l e)
    conditions ctx l e h = both (expr ctx e h) (assignable l bool (expression_type ctx e))

    stmt : (ctx : Context) (s : Statement) → InStatement N O L s → Errors (statement_errors ctx s)
    unfolding statement_errors InStatement InOptional operand_sort
    stmt ctx (block l members) h = stmt ctx members h
    stmt ctx (expression l e) h = expr ctx e h
    stmt ctx (variable_declaration l name t value) h =
        three (conversion ctx.in_module t h.1.0) (once (not (is_local ctx name)) (told (local_redefined l name) refl h.0 tt tt))
        (initial (declare_local ctx name (convert_node_type ctx.in_module t)) (convert_node_type ctx.in_module t) value h.1.1)
    stmt ctx (assignment l target value) h =
        three (expr ctx target h.0) (expr ctx value h.1) (assignable l (expression_type ctx target) (expression_type ctx value))
    stmt ctx (compound_assignment l target value) h = both (expr ctx target h.0) (compound ctx (expression_type ctx target) value h.1)
    stmt ctx (return l none) h = once (same ctx.in_function.return_type void) (told (return_needs_value l ctx.in_function.return_type) refl tt tt tt)
    stmt ctx (return l (some e)) h = both (expr ctx e h) (assignable l ctx.in_function.return_type (expression_type ctx e))
    stmt ctx (loop l body) h = stmt ctx body h
    stmt ctx (while l condition body) h = both (conditions ctx l condition h.0) (stmt ctx body h.1)
    stmt ctx (break l) h = nothing
    stmt ctx («if» l condition body) h = both (conditions ctx l condition h.0) (stmt ctx body h.1)
    stmt ctx (if_else l condition trueBody false_body) h =
        three (conditions ctx l condition h.0) (stmt ctx trueBody h.1.0) (stmt (context_after ctx trueBody) false_body h.1.1)
    stmt ctx (inline_assembly l) h = nothing
    stmt ctx no_statements h = nothing
    stmt ctx (statement_then s rest) h = both (stmt ctx s h.0) (stmt (context_after ctx s) rest h.1)

    -- Items in pass 2
    body : (ctx : Context) (l : Location) (name : ℕ) (b : Option Statement) → N name → InBody N O L b → Errors (body_errors ctx l name b)
    unfolding InBody operand_sort
    body ctx l name none n h = nothing
    body ctx l name (some s) n h =
        both (stmt ctx s h) (once (same ctx.in_function.return_type void || do_all_paths_diverge s) (told (paths_without_return l name) refl n tt tt))

    pub in_pass_2 : (ctx : ModuleContext) (i : Item) → InItem N O L i → Errors (item_errors ctx i)
    unfolding item_errors InDeclaration InCode
    in_pass_2 ctx (function_definition l name returned ps b) h =
        let d = h.declared in
        three (parameters ctx ps d.1.1) (conversion ctx returned d.1.0) (body (function_context ctx returned ps) l name b d.0 h.code)
    in_pass_2 ctx (type_alias l name is_distinct internal t) h = conversion ctx t h.declared.1
    in_pass_2 ctx (global_declaration l name t value) h =
        both (conversion ctx t h.declared) (global_initial (context ctx blank) (convert_node_type ctx t) value h.code)
    in_pass_2 ctx other_item h = nothing

  -- Items in pass 1. Kind 3 is told where the name has a built-in type
  mismatch : (l : Location) (name : ℕ) (t : Ty) → N name → B name → ErrorOf N O L B (internal_mismatch l name t)
  unfolding operand_sort
  mismatch l name t n b = record { low = omega arith; high = omega arith; first = n; second = tt; third = tt; literal = λ e. absurd (false≢true e); built_in = λ _. b }

  aliases : (l : Location) (name : ℕ) (internal taken : Bool) (built_in : Option Ty) (t : Ty) → N name → (is_some built_in ≡ true → B name)
      → Errors (alias_errors l name internal taken built_in t)
  unfolding operand_sort
  aliases l name true taken none t n b = single (told (no_built_in_for_internal l name) refl n tt tt)
  aliases l name true taken (some u) t n b = once (same (remove_aliasing t) (remove_aliasing u)) (mismatch l name t n (b refl))
  aliases l name false true built_in t n b = single (told (duplicate_alias l name) refl n tt tt)
  aliases l name false false none t n b = nothing
  aliases l name false false (some u) t n b = single (told (alias_of_built_in l name) refl n tt tt)

  pub in_pass_1 : (ctx : ModuleContext) → ((name : ℕ) → is_some (ctx.built_ins name) ≡ true → B name) → (taken : Bool) (i : Item) → InDeclaration N i
      → Errors (declaration_errors ctx taken i)
  unfolding declaration_errors InDeclaration
  in_pass_1 ctx b taken (function_definition l name returned ps body) h = both (conversion ctx returned h.1.0) (parameters ctx ps h.1.1)
  in_pass_1 ctx b taken (type_alias l name is_distinct internal t) h =
      both (conversion ctx t h.1) (aliases l name internal taken (ctx.built_ins name) (convert_node_type ctx t) h.0 (b name))
  in_pass_1 ctx b taken (global_declaration l name t value) h = conversion ctx t h
  in_pass_1 ctx b taken other_item h = nothing
