-- Compounds, statements and items whose expressions and types are changed as `Keeps` says, and whose own locations lose their place.
-- Assumes nothing.
use Prim.Native.Nat.{ℕ}
use mathlib.Core.Path.{◌≡◌, refl, sym, ◌∙◌, ap, ap₂}
use mathlib.Core.Bool.{Bool, true, false, ◌&&◌, ◌||◌, not}
use mathlib.Core.List.{List, [], ◌∷◌, ◌++◌, map, map-append}
use mathlib.Core.Option.{Option, none, some}
use lib.Dec.{leb}
use Rattle.types.specs.Ty.{Ty, end, node, bool, function, argument, desugar, first_of}
use Rattle.trees.specs.Tree.{Location, TypeNode, Expression, CompoundField, Compound, array_compound, struct_compound, InitialValue, no_value, assigned, compounded}
use Rattle.trees.specs.Tree.{Statement, block, expression, variable_declaration, assignment, compound_assignment, return, loop, while, break, «if», if_else, inline_assembly, no_statements, statement_then}
use Rattle.trees.specs.Tree.{Parameter, Item, function_definition, type_alias, global_declaration, other_item}
use Rattle.meaning.specs.TypeError.{unless, not_assignable, field_twice, move_place}
use Rattle.meaning.specs.Context.{TypeMap, ModuleContext, Context, context, blank, entry, each}
use Rattle.meaning.specs.Convert.{Slot, convert_node_type, conversion_slots}
use Rattle.meaning.specs.Expression.{expression_type, expression_errors, expression_slots, check_assignable, field_type}
use Rattle.meaning.specs.Compound.{element_errors, field_fits, struct_errors, occurrences, repeat_errors, compound_errors, compound_slots, initial_errors, global_initial_errors, initial_slots}
use Rattle.meaning.specs.Statement.{declare_local, context_after, return_errors, return_slots, statement_errors, statement_slots}
use Rattle.meaning.specs.Divergence.{find_break, do_all_paths_diverge}
use Rattle.meaning.specs.Module.{parameter_entry, parameter_errors, parameter_slots, parameter_types, argument_cells, alias_errors, is_taken, alias_entries, global_entries, declaration_errors, slot_type, declared_types, function_context, body_errors, body_slots, item_errors, item_slots}
use Rattle.slot_places.proofs.Move.{placeless, move_slot, either_errors, unless_then, conversion_places, Keeps}

abbrev pub change_field : (Expression → Expression) → CompoundField → CompoundField
change_field e f = record { location = placeless f.location; name = f.name; value = e f.value }

unfoldable pub change_compound : (Expression → Expression) → Compound → Compound
change_compound e (array_compound l elements) = array_compound (placeless l) (e elements)
change_compound e (struct_compound l fields) = struct_compound (placeless l) (map (change_field e) fields)

unfoldable pub change_value : (Expression → Expression) → InitialValue → InitialValue
change_value e no_value = no_value
change_value e (assigned x) = assigned (e x)
change_value e (compounded c) = compounded (change_compound e c)

abbrev pub change_option : {A : Type 0} → (A → A) → Option A → Option A
change_option e none = none
change_option e (some x) = some (e x)

unfoldable pub change_statement : (Expression → Expression) → (TypeNode → TypeNode) → Statement → Statement
change_statement e t (block l members) = block (placeless l) (change_statement e t members)
change_statement e t (expression l x) = expression (placeless l) (e x)
change_statement e t (variable_declaration l name x value) = variable_declaration (placeless l) name (t x) (change_value e value)
change_statement e t (assignment l target value) = assignment (placeless l) (e target) (e value)
change_statement e t (compound_assignment l target value) = compound_assignment (placeless l) (e target) (change_compound e value)
change_statement e t (return l value) = return (placeless l) (change_option e value)
change_statement e t (loop l body) = loop (placeless l) (change_statement e t body)
change_statement e t (while l condition body) = while (placeless l) (e condition) (change_statement e t body)
change_statement e t (break l) = break (placeless l)
change_statement e t («if» l condition body) = «if» (placeless l) (e condition) (change_statement e t body)
change_statement e t (if_else l condition trueBody false_body) = if_else (placeless l) (e condition) (change_statement e t trueBody) (change_statement e t false_body)
change_statement e t (inline_assembly l) = inline_assembly (placeless l)
change_statement e t no_statements = no_statements
change_statement e t (statement_then s rest) = statement_then (change_statement e t s) (change_statement e t rest)

abbrev pub change_parameter : (TypeNode → TypeNode) → Parameter → Parameter
change_parameter t p = record { name = p.name; type = t p.type }

unfoldable pub change_item : (Expression → Expression) → (TypeNode → TypeNode) → Item → Item
change_item e t (function_definition l name returned parameters body) =
    function_definition (placeless l) name (t returned) (map (change_parameter t) parameters) (change_option (change_statement e t) body)
change_item e t (type_alias l name is_distinct internal x) = type_alias (placeless l) name is_distinct internal (t x)
change_item e t (global_declaration l name x value) = global_declaration (placeless l) name (t x) (change_value e value)
change_item e t other_item = other_item

-- Lists of lists
each_same : {A B : Type 0} (h k : A → List B) (c : A → A) → ((x : A) → h (c x) ≡ k x) → (l : List A) → each h (map c l) ≡ each k l
unfolding each
each_same h k c p [] = refl
each_same h k c p (x ∷ l) = ap₂ ◌++◌ (p x) (each_same h k c p l)

each_moved : {A B : Type 0} (f : B → B) (h k : A → List B) (c : A → A) → ((x : A) → h (c x) ≡ map f (k x)) → (l : List A) → each h (map c l) ≡ map f (each k l)
unfolding each
each_moved f h k c p [] = refl
each_moved f h k c p (x ∷ l) = rw (p x, each_moved f h k c p l, map-append)

pub same_types : (g : ℕ → ℕ) (l : List Slot) → map slot_type (map (move_slot g) l) ≡ map slot_type l
same_types g [] = refl
same_types g (s ∷ l) = ap (λ (ts : List Ty). s.type ∷ ts) (same_types g l)

-- Errors other than a bad literal's say nothing of a place
module _ (g : ℕ → ℕ) where
  element_errors_lem : (l : Location) (element cells : Ty) → element_errors (placeless l) element cells ≡ map (move_place g) (element_errors l element cells)
  unfolding element_errors
  element_errors_lem l element end = refl
  element_errors_lem l element (node k t rest s n) = unless_then (move_place g) _ (not_assignable l element t) _ _ (element_errors_lem l element rest)

  field_fits_lem : (l : Location) (name : ℕ) (field : Option Ty) (value : Ty) → field_fits (placeless l) name field value ≡ map (move_place g) (field_fits l name field value)
  field_fits_lem l name none value = refl
  field_fits_lem l name (some t) value = simp either_errors

alias_errors_lem : (l : Location) (name : ℕ) (internal taken : Bool) (built_in : Option Ty) (t : Ty) → alias_errors (placeless l) name internal taken built_in t ≡ alias_errors l name internal taken built_in t
alias_errors_lem l name true taken none t = refl
alias_errors_lem l name true taken (some b) t = refl
alias_errors_lem l name false true built_in t = refl
alias_errors_lem l name false false none t = refl
alias_errors_lem l name false false (some b) t = refl

module _ {g : ℕ → ℕ} {e : Expression → Expression} {t : TypeNode → TypeNode} (k : Keeps g e t) where
  -- Compounds
  same_occurrences : (name : ℕ) (fields : List CompoundField) → occurrences name (map (change_field e) fields) ≡ occurrences name fields
  unfolding occurrences
  same_occurrences name [] = refl
  same_occurrences name (x ∷ fields) = rw (same_occurrences name fields)

  same_fields : (ctx : Context) (l : Location) (target : Ty) (fields : List CompoundField)
      → struct_errors ctx (placeless l) target (map (change_field e) fields) ≡ map (move_place g) (struct_errors ctx l target fields)
  same_fields ctx l target fields =
      rw (each_moved (move_place g) (λ f. field_fits f.location f.name (field_type f.name target) (expression_type ctx f.value))
      (λ f. field_fits f.location f.name (field_type f.name target) (expression_type ctx f.value)) (change_field e)
      (λ f. rw (k.carried ctx f.value) (field_fits_lem g f.location f.name (field_type f.name target) (expression_type ctx f.value))) fields)
      (simp either_errors)

  same_repeats : (fields : List CompoundField) → repeat_errors (map (change_field e) fields) ≡ map (move_place g) (repeat_errors fields)
  same_repeats fields =
      each_moved (move_place g) (λ f. unless (leb (occurrences f.name (map (change_field e) fields)) 1) (field_twice f.location f.name))
      (λ f. unless (leb (occurrences f.name fields) 1) (field_twice f.location f.name)) (change_field e)
      (λ f. rw (same_occurrences f.name fields) (simp either_errors)) fields

  same_compound_errors : (ctx : Context) (target : Ty) (c : Compound) → compound_errors ctx target (change_compound e c) ≡ map (move_place g) (compound_errors ctx target c)
  unfolding compound_errors change_compound
  same_compound_errors ctx target (array_compound l elements) =
      rw (k.errors ctx elements, k.carried ctx elements, element_errors_lem g l (first_of (desugar target)) (expression_type ctx elements)) (simp (either_errors, map-append))
  same_compound_errors ctx target (struct_compound l fields) =
      (λ i. each_moved (move_place g) (λ f. expression_errors ctx f.value) (λ f. expression_errors ctx f.value) (change_field e) (λ f. k.errors ctx f.value) fields i
      ++ same_fields ctx l target fields i ++ same_repeats fields i)
      ∙ simp map-append

  same_compound_slots : (ctx : Context) (c : Compound) → compound_slots ctx (change_compound e c) ≡ map (move_slot g) (compound_slots ctx c)
  unfolding compound_slots change_compound
  same_compound_slots ctx (array_compound l elements) = k.slots ctx elements
  same_compound_slots ctx (struct_compound l fields) = each_moved (move_slot g) (λ x. expression_slots ctx x.value) (λ x. expression_slots ctx x.value) (change_field e) (λ x. k.slots ctx x.value) fields

  -- Initial values
  same_initial_errors : (ctx : Context) (declared : Ty) (value : InitialValue) → initial_errors ctx declared (change_value e value) ≡ map (move_place g) (initial_errors ctx declared value)
  unfolding initial_errors change_value
  same_initial_errors ctx declared no_value = refl
  same_initial_errors ctx declared (assigned x) =
      rw (k.errors ctx x, k.carried ctx x)
      (ap (λ (l : Location). map (move_place g) (expression_errors ctx x) ++ check_assignable l declared (expression_type ctx x)) (k.locations x)
      ∙ simp (either_errors, map-append))
  same_initial_errors ctx declared (compounded c) = same_compound_errors ctx declared c

  same_global_errors : (ctx : Context) (declared : Ty) (value : InitialValue) → global_initial_errors ctx declared (change_value e value) ≡ map (move_place g) (global_initial_errors ctx declared value)
  unfolding global_initial_errors change_value
  same_global_errors ctx declared no_value = refl
  same_global_errors ctx declared (assigned x) = k.errors ctx x
  same_global_errors ctx declared (compounded c) = same_compound_errors ctx declared c

  same_initial_slots : (ctx : Context) (value : InitialValue) → initial_slots ctx (change_value e value) ≡ map (move_slot g) (initial_slots ctx value)
  unfolding initial_slots change_value
  same_initial_slots ctx no_value = refl
  same_initial_slots ctx (assigned x) = k.slots ctx x
  same_initial_slots ctx (compounded c) = same_compound_slots ctx c

  same_return_errors : (ctx : Context) (l : Location) (value : Option Expression) → return_errors ctx (placeless l) (change_option e value) ≡ map (move_place g) (return_errors ctx l value)
  same_return_errors ctx l none = simp either_errors
  same_return_errors ctx l (some x) = rw (k.errors ctx x, k.carried ctx x) (simp (either_errors, map-append))

  same_return_slots : (ctx : Context) (value : Option Expression) → return_slots ctx (change_option e value) ≡ map (move_slot g) (return_slots ctx value)
  same_return_slots ctx none = refl
  same_return_slots ctx (some x) = k.slots ctx x

  -- Statements
  same_context : (ctx : Context) (s : Statement) → context_after ctx (change_statement e t s) ≡ context_after ctx s
  unfolding context_after change_statement
  same_context ctx (block l members) = same_context ctx members
  same_context ctx (expression l x) = refl
  same_context ctx (variable_declaration l name x value) = rw (k.types ctx.in_module x)
  same_context ctx (assignment l target value) = refl
  same_context ctx (compound_assignment l target value) = refl
  same_context ctx (return l value) = refl
  same_context ctx (loop l body) = same_context ctx body
  same_context ctx (while l condition body) = same_context ctx body
  same_context ctx (break l) = refl
  same_context ctx («if» l condition body) = same_context ctx body
  same_context ctx (if_else l condition trueBody false_body) =
      ap (λ c. context_after c (change_statement e t false_body)) (same_context ctx trueBody) ∙ same_context (context_after ctx trueBody) false_body
  same_context ctx (inline_assembly l) = refl
  same_context ctx no_statements = refl
  same_context ctx (statement_then s rest) =
      ap (λ c. context_after c (change_statement e t rest)) (same_context ctx s) ∙ same_context (context_after ctx s) rest

  same_statement_errors : (ctx : Context) (s : Statement) → statement_errors ctx (change_statement e t s) ≡ map (move_place g) (statement_errors ctx s)
  unfolding statement_errors change_statement
  same_statement_errors ctx (block l members) = same_statement_errors ctx members
  same_statement_errors ctx (expression l x) = k.errors ctx x
  same_statement_errors ctx (variable_declaration l name x value) =
      rw (
        k.type_errors ctx.in_module x,
        k.types ctx.in_module x,
        same_initial_errors (declare_local ctx name (convert_node_type ctx.in_module x)) (convert_node_type ctx.in_module x) value,
      )
      (simp (either_errors, map-append, conversion_places g ctx.in_module x))
  same_statement_errors ctx (assignment l target value) =
      rw (k.errors ctx target, k.errors ctx value, k.carried ctx target, k.carried ctx value) (simp (either_errors, map-append))
  same_statement_errors ctx (compound_assignment l target value) =
      rw (k.errors ctx target, k.carried ctx target, same_compound_errors ctx (expression_type ctx target) value) (simp map-append)
  same_statement_errors ctx (return l value) = same_return_errors ctx l value
  same_statement_errors ctx (loop l body) = same_statement_errors ctx body
  same_statement_errors ctx (while l condition body) =
      rw (k.errors ctx condition, k.carried ctx condition, same_statement_errors ctx body) (simp (either_errors, map-append))
  same_statement_errors ctx (break l) = refl
  same_statement_errors ctx («if» l condition body) =
      rw (k.errors ctx condition, k.carried ctx condition, same_statement_errors ctx body) (simp (either_errors, map-append))
  same_statement_errors ctx (if_else l condition trueBody false_body) =
      rw (k.errors ctx condition, k.carried ctx condition)
      (ap₂ (λ x y. map (move_place g) (expression_errors ctx condition) ++ check_assignable l bool (expression_type ctx condition) ++ x ++ y) (same_statement_errors ctx trueBody)
      (ap (λ c. statement_errors c (change_statement e t false_body)) (same_context ctx trueBody) ∙ same_statement_errors (context_after ctx trueBody) false_body)
      ∙ simp (either_errors, map-append))
  same_statement_errors ctx (inline_assembly l) = refl
  same_statement_errors ctx no_statements = refl
  same_statement_errors ctx (statement_then s rest) =
      ap₂ ◌++◌ (same_statement_errors ctx s)
      (ap (λ c. statement_errors c (change_statement e t rest)) (same_context ctx s) ∙ same_statement_errors (context_after ctx s) rest)
      ∙ simp map-append

  same_statement_slots : (ctx : Context) (s : Statement) → statement_slots ctx (change_statement e t s) ≡ map (move_slot g) (statement_slots ctx s)
  unfolding statement_slots change_statement
  same_statement_slots ctx (block l members) = same_statement_slots ctx members
  same_statement_slots ctx (expression l x) = k.slots ctx x
  same_statement_slots ctx (variable_declaration l name x value) =
      rw (k.type_slots ctx.in_module x, k.types ctx.in_module x, same_initial_slots (declare_local ctx name (convert_node_type ctx.in_module x)) value, map-append)
  same_statement_slots ctx (assignment l target value) = rw (k.slots ctx target, k.slots ctx value, map-append)
  same_statement_slots ctx (compound_assignment l target value) = rw (k.slots ctx target, same_compound_slots ctx value, map-append)
  same_statement_slots ctx (return l value) = same_return_slots ctx value
  same_statement_slots ctx (loop l body) = same_statement_slots ctx body
  same_statement_slots ctx (while l condition body) = rw (k.slots ctx condition, same_statement_slots ctx body, map-append)
  same_statement_slots ctx (break l) = refl
  same_statement_slots ctx («if» l condition body) = rw (k.slots ctx condition, same_statement_slots ctx body, map-append)
  same_statement_slots ctx (if_else l condition trueBody false_body) =
      (λ i. k.slots ctx condition i ++ same_statement_slots ctx trueBody i
      ++ (ap (λ c. statement_slots c (change_statement e t false_body)) (same_context ctx trueBody) ∙ same_statement_slots (context_after ctx trueBody) false_body) i)
      ∙ simp map-append
  same_statement_slots ctx (inline_assembly l) = refl
  same_statement_slots ctx no_statements = refl
  same_statement_slots ctx (statement_then s rest) =
      ap₂ ◌++◌ (same_statement_slots ctx s)
      (ap (λ c. statement_slots c (change_statement e t rest)) (same_context ctx s) ∙ same_statement_slots (context_after ctx s) rest)
      ∙ simp map-append

  same_break : (s : Statement) → find_break (change_statement e t s) ≡ find_break s
  unfolding find_break change_statement
  same_break (block l members) = same_break members
  same_break (expression l x) = refl
  same_break (variable_declaration l name x value) = refl
  same_break (assignment l target value) = refl
  same_break (compound_assignment l target value) = refl
  same_break (return l value) = refl
  same_break (loop l body) = same_break body
  same_break (while l condition body) = same_break body
  same_break (break l) = refl
  same_break («if» l condition body) = same_break body
  same_break (if_else l condition trueBody false_body) = ap₂ ◌||◌ (same_break trueBody) (same_break false_body)
  same_break (inline_assembly l) = refl
  same_break no_statements = refl
  same_break (statement_then s rest) = ap₂ ◌||◌ (same_break s) (same_break rest)

  same_divergence : (s : Statement) → do_all_paths_diverge (change_statement e t s) ≡ do_all_paths_diverge s
  unfolding do_all_paths_diverge change_statement
  same_divergence (block l members) = same_divergence members
  same_divergence (expression l x) = refl
  same_divergence (variable_declaration l name x value) = refl
  same_divergence (assignment l target value) = refl
  same_divergence (compound_assignment l target value) = refl
  same_divergence (return l value) = refl
  same_divergence (loop l body) = ap₂ (λ x y. not x || y) (same_break body) (same_divergence body)
  same_divergence (while l condition body) = same_divergence body
  same_divergence (break l) = refl
  same_divergence («if» l condition body) = refl
  same_divergence (if_else l condition trueBody false_body) = ap₂ ◌&&◌ (same_divergence trueBody) (same_divergence false_body)
  same_divergence (inline_assembly l) = refl
  same_divergence no_statements = refl
  same_divergence (statement_then s rest) = ap₂ ◌||◌ (same_divergence s) (same_divergence rest)

  same_body_errors : (ctx : Context) (l : Location) (name : ℕ) (body : Option Statement)
      → body_errors ctx (placeless l) name (change_option (change_statement e t) body) ≡ map (move_place g) (body_errors ctx l name body)
  same_body_errors ctx l name none = refl
  same_body_errors ctx l name (some s) = rw (same_statement_errors ctx s, same_divergence s) (simp (either_errors, map-append))

  same_body_slots : (ctx : Context) (body : Option Statement) → body_slots ctx (change_option (change_statement e t) body) ≡ map (move_slot g) (body_slots ctx body)
  same_body_slots ctx none = refl
  same_body_slots ctx (some s) = same_statement_slots ctx s

  -- Parameters
  same_cells : (ctx : ModuleContext) (ps : List Parameter) → argument_cells ctx (map (change_parameter t) ps) ≡ argument_cells ctx ps
  unfolding argument_cells
  same_cells ctx [] = refl
  same_cells ctx (p ∷ ps) = ap₂ argument (k.types ctx p.type) (same_cells ctx ps)

  same_entries : (ctx : ModuleContext) (ps : List Parameter) → map (parameter_entry ctx) (map (change_parameter t) ps) ≡ map (parameter_entry ctx) ps
  same_entries ctx [] = refl
  same_entries ctx (p ∷ ps) = ap₂ (λ x y. entry p.name x ∷ y) (k.types ctx p.type) (same_entries ctx ps)

  same_parameter_errors : (ctx : ModuleContext) (ps : List Parameter) → each (parameter_errors ctx) (map (change_parameter t) ps) ≡ each (parameter_errors ctx) ps
  same_parameter_errors ctx ps = each_same (parameter_errors ctx) (parameter_errors ctx) (change_parameter t) (λ p. k.type_errors ctx p.type) ps

  same_converted : (ctx : ModuleContext) (x : TypeNode) → map slot_type (conversion_slots ctx (t x)) ≡ map slot_type (conversion_slots ctx x)
  same_converted ctx x = ap (map slot_type) (k.type_slots ctx x) ∙ same_types g (conversion_slots ctx x)

  same_parameter_types : (ctx : ModuleContext) (ps : List Parameter) → each (parameter_types ctx) (map (change_parameter t) ps) ≡ each (parameter_types ctx) ps
  same_parameter_types ctx ps = each_same (parameter_types ctx) (parameter_types ctx) (change_parameter t) (λ p. same_converted ctx p.type) ps

  same_function : (ctx : ModuleContext) (returned : TypeNode) (ps : List Parameter) → function_context ctx (t returned) (map (change_parameter t) ps) ≡ function_context ctx returned ps
  same_function ctx returned ps = rw (k.types ctx returned, same_entries ctx ps)

-- The errors of parameters have no places
parameter_places : (g : ℕ → ℕ) (ctx : ModuleContext) (ps : List Parameter) → map (move_place g) (each (parameter_errors ctx) ps) ≡ each (parameter_errors ctx) ps
unfolding each
parameter_places g ctx [] = refl
parameter_places g ctx (p ∷ ps) = simp (map-append, conversion_places g ctx p.type, parameter_places g ctx ps)

-- Two items that mean the same in every context; `g` takes the places of the second to those of the first
pub record SameItem (g : ℕ → ℕ) (i j : Item) : Type 0 where
  pub taken : (aliases : TypeMap) → is_taken aliases i ≡ is_taken aliases j
  pub aliases : (ctx : ModuleContext) (taken : Bool) → alias_entries ctx taken i ≡ alias_entries ctx taken j
  pub globals : (ctx : ModuleContext) → global_entries ctx i ≡ global_entries ctx j
  pub errors1 : (ctx : ModuleContext) (taken : Bool) → declaration_errors ctx taken i ≡ declaration_errors ctx taken j
  pub types1 : (ctx : ModuleContext) → declared_types ctx i ≡ declared_types ctx j
  pub errors2 : (ctx : ModuleContext) → item_errors ctx i ≡ map (move_place g) (item_errors ctx j)
  pub slots : (ctx : ModuleContext) → item_slots ctx i ≡ map (move_slot g) (item_slots ctx j)

pub same_item : {g : ℕ → ℕ} {e : Expression → Expression} {t : TypeNode → TypeNode} → Keeps g e t → (i : Item) → SameItem g (change_item e t i) i
unfolding is_taken alias_entries global_entries declaration_errors declared_types item_errors item_slots change_item
same_item {g} {e} {t} k (function_definition l name returned parameters body) =
    let body' : Option Statement = change_option (change_statement e t) body in
    record {
      taken = λ aliases. refl;
      aliases = λ ctx taken. refl;
      globals = λ ctx. ap₂ (λ x y. entry name (function x y) ∷ []) (k.types ctx returned) (same_cells k ctx parameters);
      errors1 = λ ctx taken. ap₂ ◌++◌ (k.type_errors ctx returned) (same_parameter_errors k ctx parameters);
      types1 = λ ctx. ap₂ ◌++◌ (same_converted k ctx returned) (same_parameter_types k ctx parameters);
      errors2 = λ ctx. (λ j. same_parameter_errors k ctx parameters j ++ k.type_errors ctx returned j
          ++ (ap (λ c. body_errors c (placeless l) name body') (same_function k ctx returned parameters) ∙ same_body_errors k (function_context ctx returned parameters) l name body) j)
          ∙ simp (map-append, parameter_places g ctx parameters, conversion_places g ctx returned);
      slots = λ ctx. (λ j. k.type_slots ctx returned j ++ each_moved (move_slot g) (parameter_slots ctx) (parameter_slots ctx) (change_parameter t) (λ p. k.type_slots ctx p.type) parameters j
          ++ (ap (λ c. body_slots c body') (same_function k ctx returned parameters) ∙ same_body_slots k (function_context ctx returned parameters) body) j)
          ∙ simp map-append;
    }
same_item {g} {e} {t} k (type_alias l name is_distinct internal x) =
    record {
      taken = λ aliases. refl;
      aliases = λ ctx taken. rw (k.types ctx x);
      globals = λ ctx. refl;
      errors1 = λ ctx taken. ap₂ ◌++◌ (k.type_errors ctx x) (ap (alias_errors (placeless l) name internal taken (ctx.built_ins name)) (k.types ctx x) ∙ alias_errors_lem l name internal taken (ctx.built_ins name) (convert_node_type ctx x));
      types1 = λ ctx. same_converted k ctx x;
      errors2 = λ ctx. k.type_errors ctx x ∙ sym (conversion_places g ctx x);
      slots = λ ctx. k.type_slots ctx x;
    }
same_item {g} {e} {t} k (global_declaration l name x value) =
    record {
      taken = λ aliases. refl;
      aliases = λ ctx taken. refl;
      globals = λ ctx. ap (λ y. entry name y ∷ []) (k.types ctx x);
      errors1 = λ ctx taken. k.type_errors ctx x;
      types1 = λ ctx. same_converted k ctx x;
      errors2 = λ ctx. ap₂ ◌++◌ (k.type_errors ctx x)
          (ap (λ y. global_initial_errors (context ctx blank) y (change_value e value)) (k.types ctx x) ∙ same_global_errors k (context ctx blank) (convert_node_type ctx x) value)
          ∙ simp (map-append, conversion_places g ctx x);
      slots = λ ctx. ap₂ ◌++◌ (k.type_slots ctx x) (same_initial_slots k (context ctx blank) value) ∙ simp map-append;
    }
same_item k other_item =
    record {
      taken = λ aliases. refl;
      aliases = λ ctx taken. refl;
      globals = λ ctx. refl;
      errors1 = λ ctx taken. refl;
      types1 = λ ctx. refl;
      errors2 = λ ctx. refl;
      slots = λ ctx. refl;
    }
