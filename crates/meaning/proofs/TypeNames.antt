-- The names in the types of a module are names of its trees: of what is converted, stored, carried by an expression, and of their parts.
-- Assumes nothing.
use Prim.Native.Nat.{ℕ, ◌≤◌}
use mathlib.Core.Path.{◌≡◌, refl, sym, subst}
use mathlib.Core.Bool.{Bool, true, false, cond, ◌||◌, false≢true}
use mathlib.Core.Option.{Option, none, some}
use mathlib.Core.List.{List, [], ◌∷◌, ◌++◌, map}
use mathlib.Core.Logic.{inl, inr}
use native.Mathlib.Omega.{arith}
use lib.Dec.{eqb}
use lib.ListN.{get_or}
use Rattle.types.specs.Ty.{Ty, end, node, is, first_of, desugar, field_named, parts, member, same, fixed_types, unknown, void, bool, u16, i16, string, pointer, array, struct, function, argument, alias_kind, field_kind, function_kind, array_kind, pointer_kind, struct_kind}
use Rattle.types.proofs.Laws.{same_true}
use Rattle.names.specs.Names.{same_bytes}
use Rattle.trees.specs.Tree.{TypeNode, name_type, void_type, pointer_type, array_type, struct_type, no_fields, field_then, Parameter, Expression, identifier, integer, boolean, string_literal, call, index, cast, pointer_take, pointer_dereference, field_access, bitwise_not, boolean_not, boolean_and, arithmetic_bin_op, comparison_bin_op, sizeof, no_expressions, expression_then}
use Rattle.trees.specs.Tree.{CompoundField, Compound, array_compound, struct_compound, InitialValue, no_value, assigned, compounded, Statement, block, expression, variable_declaration, assignment, compound_assignment, return, loop, while, break, «if», if_else, inline_assembly, no_statements, statement_then, Item, function_definition, type_alias, global_declaration, other_item}
use Rattle.meaning.specs.Context.{TypeMap, no_types, or_else, or_unknown, Entry, entry, insert, insert_all, each, All, ModuleContext, Context, context, blank, type_named, resolve_identifier}
use Rattle.meaning.specs.Convert.{Slot, convert_node_type, conversion_slots}
use Rattle.meaning.specs.Expression.{part_of, field_type, expression_type, expression_slots}
use Rattle.meaning.specs.Compound.{compound_slots, initial_slots}
use Rattle.meaning.specs.Statement.{is_local, with_local, declare_local, context_after, statement_slots}
use Rattle.meaning.specs.Module.{parameter_entry, parameter_slots, argument_cells, aliased, is_stored, is_taken, alias_entries, global_entries, slot_type, converted_types, parameter_types, declared_types, entry_type, declaration_types, declare, function_context, body_slots, item_slots, item_types}
use Rattle.meaning.specs.Promise.{built_in_types}
use Rattle.meaning.specs.Words.{NamesIn}
use Rattle.meaning.proofs.Members.{all_join, all_each, all_mapped}
use Rattle.meaning.proofs.TreeWords.{InType, InParameter, InDeclaration, InExpression, InCompoundField, InCompound, InValue, InOptional, InStatement, InBody, InCode, InItem}

module _ (N : ℕ → Type 0) where
  -- Types by how they are made
  unnamed : (k : ℕ) (a b : Ty) (s n : ℕ) → (alias_kind ≤ k → k ≤ field_kind → ⊥) → NamesIn N a → NamesIn N b → NamesIn N (node k a b s n)
  unfolding NamesIn
  unnamed k a b s n f p q = (λ x y. absurd (f x y), (p, q))

  ended : NamesIn N end
  unfolding NamesIn
  ended = tt

  alone : (k : ℕ) → (alias_kind ≤ k → k ≤ field_kind → ⊥) → NamesIn N (node k end end 0 0)
  alone k f = unnamed k end end 0 0 f ended ended

  unknown_named : NamesIn N unknown
  unknown_named = alone 1 (λ x y. omega arith)

  void_named : NamesIn N void
  void_named = alone 2 (λ x y. omega arith)

  bool_named : NamesIn N bool
  bool_named = alone 3 (λ x y. omega arith)

  u16_named : NamesIn N u16
  u16_named = alone 4 (λ x y. omega arith)

  i16_named : NamesIn N i16
  i16_named = alone 5 (λ x y. omega arith)

  pointer_named : (t : Ty) → NamesIn N t → NamesIn N (pointer t)
  pointer_named t p = unnamed 6 t end 0 0 (λ x y. omega arith) p ended

  array_named : (t : Ty) (size : ℕ) → NamesIn N t → NamesIn N (array t size)
  array_named t size p = unnamed 7 t end size 0 (λ x y. omega arith) p ended

  struct_named : (t : Ty) → NamesIn N t → NamesIn N (struct t)
  struct_named t p = unnamed 8 t end 0 0 (λ x y. omega arith) p ended

  function_named : (t u : Ty) → NamesIn N t → NamesIn N u → NamesIn N (function t u)
  function_named t u p q = unnamed 9 t u 0 0 (λ x y. omega arith) p q

  argument_named : (t u : Ty) → NamesIn N t → NamesIn N u → NamesIn N (argument t u)
  argument_named t u p q = unnamed 13 t u 0 0 (λ x y. omega arith) p q

  named : (k : ℕ) (a b : Ty) (s n : ℕ) → N n → NamesIn N a → NamesIn N b → NamesIn N (node k a b s n)
  unfolding NamesIn
  named k a b s n h p q = (λ x y. inr h, (p, q))

  string_named : NamesIn N string
  unfolding NamesIn
  string_named = (λ x y. inl refl, (pointer_named u16 u16_named, tt))

  -- and parts of them
  first_named : (t : Ty) → NamesIn N t → NamesIn N (first_of t)
  unfolding NamesIn
  first_named end h = tt
  first_named (node k a b s n) h = h.1.0

  by_test : (x : Bool) (a b : Ty) → NamesIn N a → NamesIn N b → NamesIn N (cond x a b)
  by_test true a b p q = p
  by_test false a b p q = q

  part_named : (k : ℕ) (t : Ty) → NamesIn N t → NamesIn N (part_of k t)
  part_named k t h = by_test (is k t) (first_of t) unknown (first_named t h) unknown_named

  desugared : (t : Ty) → NamesIn N t → NamesIn N (desugar t)
  unfolding desugar NamesIn
  desugared end h = h
  desugared (node k a b s n) h = by_test (eqb k alias_kind) (desugar a) (node k a b s n) (desugared a h.1.0) h

  -- Types that may be there
  abbrev pub NamesInOption : Option Ty → Type 0
  NamesInOption none = Unit {0}
  NamesInOption (some t) = NamesIn N t

  abbrev pub NamesInMap : TypeMap → Type 0
  NamesInMap map = (name : ℕ) → NamesInOption (map name)

  option_test : (x : Bool) (a b : Option Ty) → NamesInOption a → NamesInOption b → NamesInOption (cond x a b)
  option_test true a b p q = p
  option_test false a b p q = q

  or_unknown_lem : (o : Option Ty) → NamesInOption o → NamesIn N (or_unknown o)
  or_unknown_lem none h = unknown_named
  or_unknown_lem (some t) h = h

  or_else_lem : (a b : Option Ty) → NamesInOption a → NamesInOption b → NamesInOption (or_else a b)
  or_else_lem none b p q = q
  or_else_lem (some t) b p q = p

  field_named_lem : (name : ℕ) (t : Ty) → NamesIn N t → NamesInOption (field_named name t)
  unfolding field_named NamesIn
  field_named_lem name end h = tt
  field_named_lem name (node k a b s n) h = option_test (eqb n name) (some a) (field_named name b) h.1.0 (field_named_lem name b h.1.1)

  field_type_lem : (name : ℕ) (t : Ty) → NamesIn N t → NamesInOption (field_type name t)
  field_type_lem name t h =
      option_test (is struct_kind (desugar t)) (field_named name (first_of (desugar t))) none (field_named_lem name (first_of (desugar t)) (first_named (desugar t) (desugared t h))) tt

  -- Of the built-in types only String has a name
  pub built_ins_named : (names : List (List ℕ)) → NamesInMap (built_in_types names)
  unfolding built_in_types
  built_ins_named names name =
      let text : List ℕ = get_or names name [] in
      go (same_bytes text (117 ∷ 49 ∷ 54 ∷ [])) (same_bytes text (105 ∷ 49 ∷ 54 ∷ [])) (same_bytes text (98 ∷ 111 ∷ 111 ∷ 108 ∷ [])) (same_bytes text (83 ∷ 116 ∷ 114 ∷ 105 ∷ 110 ∷ 103 ∷ []))
    where
      go : (a b c d : Bool) → NamesInOption (cond a (some u16) (cond b (some i16) (cond c (some bool) (cond d (some string) none))))
      go true b c d = u16_named
      go false true c d = i16_named
      go false false true d = bool_named
      go false false false true = string_named
      go false false false false = tt

  -- Contexts
  pub record NamedModule (ctx : ModuleContext) : Type 0 where
    pub built_ins : NamesInMap ctx.built_ins
    pub type_aliases : NamesInMap ctx.type_aliases
    pub globals : NamesInMap ctx.globals

  pub record NamedContext (ctx : Context) : Type 0 where
    pub in_module : NamedModule ctx.in_module
    pub variables : NamesInMap ctx.in_function.variables
    pub arguments : NamesInMap ctx.in_function.arguments

  inserted : (e : Entry) (map : TypeMap) → NamesIn N e.type → NamesInMap map → NamesInMap (insert e map)
  inserted e map p q = λ name. option_test (eqb name e.name) (some e.type) (map name) p (q name)

  abbrev EntryNamed : Entry → Type 0
  EntryNamed e = NamesIn N e.type

  all_inserted : (es : List Entry) (map : TypeMap) → All EntryNamed es → NamesInMap map → NamesInMap (insert_all es map)
  unfolding All insert_all
  all_inserted [] map p q = q
  all_inserted (e ∷ es) map p q = all_inserted es (insert e map) p.1 (inserted e map p.0 q)

  -- Lists of types
  pub parts_named : (t : Ty) → NamesIn N t → All (NamesIn N) (parts t)
  unfolding All NamesIn parts
  parts_named end h = tt
  parts_named (node k a b s n) h = (h, all_join (NamesIn N) (parts a) (parts b) (parts_named a h.1.0) (parts_named b h.1.1))

  pub fixed_named : All (NamesIn N) fixed_types
  unfolding All
  fixed_named = (unknown_named, (void_named, (bool_named, (u16_named, (i16_named, (pointer_named u16 u16_named, (string_named, tt)))))))

  pub member_named : (t : Ty) (l : List Ty) → All (NamesIn N) l → member t l ≡ true → NamesIn N t
  unfolding All member
  member_named t [] p e = absurd (false≢true e)
  member_named t (u ∷ l) p e = go (same t u) refl e (member_named t l p.1)
    where
      go : (x : Bool) → same t u ≡ x → x || member t l ≡ true → (member t l ≡ true → NamesIn N t) → NamesIn N t
      go true f g h = subst (NamesIn N) (sym (same_true t u f)) p.0
      go false f g h = h g

  -- Slots
  abbrev pub SlotNamed : Slot → Type 0
  SlotNamed s = NamesIn N s.type

  pub record Slots (slots : List Slot) : Type 0 where
    pub all : All SlotNamed slots

  nothing : Slots []
  unfolding All
  nothing = record { all = tt }

  both : {a b : List Slot} → Slots a → Slots b → Slots (a ++ b)
  both {a = a} {b = b} p q = record { all = all_join SlotNamed a b p.all q.all }

  three : {a b c : List Slot} → Slots a → Slots b → Slots c → Slots (a ++ b ++ c)
  three p q r = both (both p q) r

  then : {s : Slot} {l : List Slot} → NamesIn N s.type → Slots l → Slots (s ∷ l)
  unfolding All
  then p q = record { all = (p, q.all) }

  of_each : {A : Type 0} (Q : A → Type 0) (f : A → List Slot) → ((x : A) → Q x → Slots (f x)) → (l : List A) → All Q l → Slots (each f l)
  of_each Q f h l p = record { all = all_each SlotNamed Q f (λ x q. (h x q).all) l p }

  pub slot_types_lem : {l : List Slot} → Slots l → All (NamesIn N) (map slot_type l)
  slot_types_lem {l = l} p = all_mapped (NamesIn N) SlotNamed slot_type (λ s h. h) l p.all

  -- Conversion
  module _ (ctx : ModuleContext) (m : NamedModule ctx) where
    converted : (t : TypeNode) → InType N t → NamesIn N (convert_node_type ctx t)
    unfolding convert_node_type InType
    converted (name_type l name) h = or_unknown_lem (type_named ctx name) (or_else_lem (ctx.type_aliases name) (ctx.built_ins name) (m.type_aliases name) (m.built_ins name))
    converted (void_type l) h = void_named
    converted (pointer_type l t) h = pointer_named (convert_node_type ctx t) (converted t h)
    converted (array_type l size t) h = array_named (convert_node_type ctx t) size (converted t h)
    converted (struct_type l fields) h = struct_named (convert_node_type ctx fields) (converted fields h)
    converted no_fields h = ended
    converted (field_then name t rest) h = named 12 (convert_node_type ctx t) (convert_node_type ctx rest) 0 name h.0 (converted t h.1.0) (converted rest h.1.1)

    conversion : (t : TypeNode) → InType N t → Slots (conversion_slots ctx t)
    unfolding conversion_slots InType
    conversion (name_type l name) h = then (converted (name_type l name) h) nothing
    conversion (void_type l) h = then void_named nothing
    conversion (pointer_type l t) h = then (converted (pointer_type l t) h) (conversion t h)
    conversion (array_type l size t) h = then (converted (array_type l size t) h) (conversion t h)
    conversion (struct_type l fields) h = then (converted (struct_type l fields) h) (conversion fields h)
    conversion no_fields h = nothing
    conversion (field_then name t rest) h = both (conversion t h.1.0) (conversion rest h.1.1)

    parameters : (ps : List Parameter) → All (InParameter N) ps → Slots (each (parameter_slots ctx) ps)
    parameters ps h = of_each (InParameter N) (parameter_slots ctx) (λ p. conversion p.type) ps h

    parameter_types_lem : (ps : List Parameter) → All (InParameter N) ps → All (NamesIn N) (each (parameter_types ctx) ps)
    parameter_types_lem ps h = all_each (NamesIn N) (InParameter N) (parameter_types ctx) (λ p q. slot_types_lem (conversion p.type q)) ps h

    cells : (ps : List Parameter) → All (InParameter N) ps → NamesIn N (argument_cells ctx ps)
    unfolding argument_cells All
    cells [] h = ended
    cells (p ∷ ps) h = argument_named (convert_node_type ctx p.type) (argument_cells ctx ps) (converted p.type h.0) (cells ps h.1)

    in_function_lem : (returned : TypeNode) (ps : List Parameter) → All (InParameter N) ps → NamedContext (function_context ctx returned ps)
    in_function_lem returned ps h =
        record { in_module = m; variables = λ name. tt; arguments = all_inserted (map (parameter_entry ctx) ps) no_types (all_mapped EntryNamed (InParameter N) (parameter_entry ctx) (λ p. converted p.type) ps h) (λ name. tt) }

    -- Pass 1: what an item stores
    stored : (x : Bool) (e : Entry) → NamesIn N e.type → All EntryNamed (cond x (e ∷ []) [])
    unfolding All
    stored true e p = (p, tt)
    stored false e p = tt

    alias_named : (is_distinct : Bool) (name : ℕ) (t : Ty) → N name → NamesIn N t → NamesIn N (aliased is_distinct name t)
    alias_named true name t n p = named 11 t end 0 name n p ended
    alias_named false name t n p = named 10 t end 0 name n p ended

    aliases : (taken : Bool) (i : Item) → InDeclaration N i → All EntryNamed (alias_entries ctx taken i)
    unfolding alias_entries InDeclaration All
    aliases taken (function_definition l name returned ps body) h = tt
    aliases taken (type_alias l name is_distinct internal t) h =
        stored (is_stored internal taken (ctx.built_ins name)) (entry name (aliased is_distinct name (convert_node_type ctx t)))
        (alias_named is_distinct name (convert_node_type ctx t) h.0 (converted t h.1))
    aliases taken (global_declaration l name t value) h = tt
    aliases taken other_item h = tt

    globals_stored : (i : Item) → InDeclaration N i → All EntryNamed (global_entries ctx i)
    unfolding global_entries InDeclaration All
    globals_stored (function_definition l name returned ps body) h =
        (function_named (convert_node_type ctx returned) (argument_cells ctx ps) (converted returned h.1.0) (cells ps h.1.1), tt)
    globals_stored (type_alias l name is_distinct internal t) h = tt
    globals_stored (global_declaration l name t value) h = (converted t h, tt)
    globals_stored other_item h = tt

    pub declared : (i : Item) → InDeclaration N i → NamedModule (declare ctx i)
    declared i h =
        record {
          built_ins = m.built_ins;
          type_aliases = all_inserted (alias_entries ctx (is_taken ctx.type_aliases i) i) ctx.type_aliases (aliases (is_taken ctx.type_aliases i) i h) m.type_aliases;
          globals = all_inserted (global_entries ctx i) ctx.globals (globals_stored i h) m.globals;
        }

    -- and the types that it converts or stores
    declared_types_lem : (i : Item) → InDeclaration N i → All (NamesIn N) (declared_types ctx i)
    unfolding declared_types InDeclaration All
    declared_types_lem (function_definition l name returned ps body) h =
        all_join (NamesIn N) (converted_types ctx returned) (each (parameter_types ctx) ps) (slot_types_lem (conversion returned h.1.0)) (parameter_types_lem ps h.1.1)
    declared_types_lem (type_alias l name is_distinct internal t) h = slot_types_lem (conversion t h.1)
    declared_types_lem (global_declaration l name t value) h = slot_types_lem (conversion t h)
    declared_types_lem other_item h = tt

    pub in_pass_1 : (taken : Bool) (i : Item) → InDeclaration N i → All (NamesIn N) (declaration_types ctx taken i)
    in_pass_1 taken i h =
        all_join (NamesIn N) (declared_types ctx i ++ map entry_type (alias_entries ctx taken i)) (map entry_type (global_entries ctx i))
        (all_join (NamesIn N) (declared_types ctx i) (map entry_type (alias_entries ctx taken i)) (declared_types_lem i h) (all_mapped (NamesIn N) EntryNamed entry_type (λ e h. h) (alias_entries ctx taken i) (aliases taken i h)))
        (all_mapped (NamesIn N) EntryNamed entry_type (λ e h. h) (global_entries ctx i) (globals_stored i h))

module _ (N O L : ℕ → Type 0) where
  -- Expressions
  carried : (ctx : Context) → NamedContext N ctx → (e : Expression) → InExpression N O L e → NamesIn N (expression_type ctx e)
  unfolding expression_type InExpression
  carried ctx c (identifier l name) h =
      let f = ctx.in_function in
      or_unknown_lem N (resolve_identifier ctx name)
      (or_else_lem N (f.variables name) (or_else (f.arguments name) (ctx.in_module.globals name)) (c.variables name)
      (or_else_lem N (f.arguments name) (ctx.in_module.globals name) (c.arguments name) (c.in_module.globals name)))
  carried ctx c (integer l base digits) h = u16_named N
  carried ctx c (boolean l) h = bool_named N
  carried ctx c (string_literal l) h = string_named N
  carried ctx c (call l target arguments) h = part_named N function_kind (expression_type ctx target) (carried ctx c target h.0)
  carried ctx c (index l target i) h = part_named N array_kind (expression_type ctx target) (carried ctx c target h.0)
  carried ctx c (cast l e t) h = converted N ctx.in_module c.in_module t h.1
  carried ctx c (pointer_take l e) h = pointer_named N (expression_type ctx e) (carried ctx c e h)
  carried ctx c (pointer_dereference l e) h = part_named N pointer_kind (expression_type ctx e) (carried ctx c e h)
  carried ctx c (field_access l name e) h = or_unknown_lem N (field_type name (expression_type ctx e)) (field_type_lem N name (expression_type ctx e) (carried ctx c e h.1))
  carried ctx c (bitwise_not l e) h = carried ctx c e h
  carried ctx c (boolean_not l e) h = carried ctx c e h
  carried ctx c (boolean_and l a b) h = carried ctx c a h.0
  carried ctx c (arithmetic_bin_op l operator a b) h = desugared N (expression_type ctx a) (carried ctx c a h.1.0)
  carried ctx c (comparison_bin_op l operator a b) h = bool_named N
  carried ctx c (sizeof l t) h = u16_named N
  carried ctx c no_expressions h = ended N
  carried ctx c (expression_then e rest) h = argument_named N (expression_type ctx e) (expression_type ctx rest) (carried ctx c e h.0) (carried ctx c rest h.1)

  expr : (ctx : Context) → NamedContext N ctx → (e : Expression) → InExpression N O L e → Slots N (expression_slots ctx e)
  unfolding expression_slots InExpression
  expr ctx c (identifier l name) h = then N (carried ctx c (identifier l name) h) (nothing N)
  expr ctx c (integer l base digits) h = then N (carried ctx c (integer l base digits) h) (nothing N)
  expr ctx c (boolean l) h = then N (carried ctx c (boolean l) h) (nothing N)
  expr ctx c (string_literal l) h = then N (carried ctx c (string_literal l) h) (nothing N)
  expr ctx c (call l target arguments) h = both N (then N (carried ctx c (call l target arguments) h) (expr ctx c target h.0)) (expr ctx c arguments h.1)
  expr ctx c (index l target i) h = both N (then N (carried ctx c (index l target i) h) (expr ctx c target h.0)) (expr ctx c i h.1)
  expr ctx c (cast l e t) h = both N (then N (carried ctx c (cast l e t) h) (expr ctx c e h.0)) (conversion N ctx.in_module c.in_module t h.1)
  expr ctx c (pointer_take l e) h = then N (carried ctx c (pointer_take l e) h) (expr ctx c e h)
  expr ctx c (pointer_dereference l e) h = then N (carried ctx c (pointer_dereference l e) h) (expr ctx c e h)
  expr ctx c (field_access l name e) h = then N (carried ctx c (field_access l name e) h) (expr ctx c e h.1)
  expr ctx c (bitwise_not l e) h = then N (carried ctx c (bitwise_not l e) h) (expr ctx c e h)
  expr ctx c (boolean_not l e) h = then N (carried ctx c (boolean_not l e) h) (expr ctx c e h)
  expr ctx c (boolean_and l a b) h = both N (then N (carried ctx c (boolean_and l a b) h) (expr ctx c a h.0)) (expr ctx c b h.1)
  expr ctx c (arithmetic_bin_op l operator a b) h = both N (then N (carried ctx c (arithmetic_bin_op l operator a b) h) (expr ctx c a h.1.0)) (expr ctx c b h.1.1)
  expr ctx c (comparison_bin_op l operator a b) h = both N (then N (carried ctx c (comparison_bin_op l operator a b) h) (expr ctx c a h.0)) (expr ctx c b h.1)
  expr ctx c (sizeof l t) h = then N (carried ctx c (sizeof l t) h) (conversion N ctx.in_module c.in_module t h)
  expr ctx c no_expressions h = nothing N
  expr ctx c (expression_then e rest) h = both N (expr ctx c e h.0) (expr ctx c rest h.1)

  -- Compounds
  compound : (ctx : Context) → NamedContext N ctx → (x : Compound) → InCompound N O L x → Slots N (compound_slots ctx x)
  unfolding compound_slots InCompound
  compound ctx c (array_compound l elements) h = expr ctx c elements h
  compound ctx c (struct_compound l fields) h =
      of_each N (InCompoundField N O L) (λ (f : CompoundField). expression_slots ctx f.value) (λ f p. expr ctx c f.value p.1) fields h

  initial : (ctx : Context) → NamedContext N ctx → (v : InitialValue) → InValue N O L v → Slots N (initial_slots ctx v)
  unfolding initial_slots InValue
  initial ctx c no_value h = nothing N
  initial ctx c (assigned e) h = expr ctx c e h
  initial ctx c (compounded x) h = compound ctx c x h

  -- Statements
  local_declared : (ctx : Context) (name : ℕ) (t : Ty) → NamedContext N ctx → NamesIn N t → NamedContext N (declare_local ctx name t)
  local_declared ctx name t c p = go (is_local ctx name)
    where
      go : (x : Bool) → NamedContext N (cond x ctx (with_local (entry name t) ctx))
      go true = c
      go false = record { in_module = c.in_module; variables = inserted N (entry name t) ctx.in_function.variables p c.variables; arguments = c.arguments }

  after : (ctx : Context) → NamedContext N ctx → (s : Statement) → InStatement N O L s → NamedContext N (context_after ctx s)
  unfolding context_after InStatement
  after ctx c (block l members) h = after ctx c members h
  after ctx c (expression l e) h = c
  after ctx c (variable_declaration l name t value) h =
      local_declared ctx name (convert_node_type ctx.in_module t) c (converted N ctx.in_module c.in_module t h.1.0)
  after ctx c (assignment l target value) h = c
  after ctx c (compound_assignment l target value) h = c
  after ctx c (return l value) h = c
  after ctx c (loop l body) h = after ctx c body h
  after ctx c (while l condition body) h = after ctx c body h.1
  after ctx c (break l) h = c
  after ctx c («if» l condition body) h = after ctx c body h.1
  after ctx c (if_else l condition trueBody false_body) h = after (context_after ctx trueBody) (after ctx c trueBody h.1.0) false_body h.1.1
  after ctx c (inline_assembly l) h = c
  after ctx c no_statements h = c
  after ctx c (statement_then s rest) h = after (context_after ctx s) (after ctx c s h.0) rest h.1

  stmt : (ctx : Context) → NamedContext N ctx → (s : Statement) → InStatement N O L s → Slots N (statement_slots ctx s)
  unfolding statement_slots InStatement InOptional
  stmt ctx c (block l members) h = stmt ctx c members h
  stmt ctx c (expression l e) h = expr ctx c e h
  stmt ctx c (variable_declaration l name t value) h =
      let u = converted N ctx.in_module c.in_module t h.1.0 in
      both N (conversion N ctx.in_module c.in_module t h.1.0)
      (initial (declare_local ctx name (convert_node_type ctx.in_module t)) (local_declared ctx name (convert_node_type ctx.in_module t) c u) value h.1.1)
  stmt ctx c (assignment l target value) h = both N (expr ctx c target h.0) (expr ctx c value h.1)
  stmt ctx c (compound_assignment l target value) h = both N (expr ctx c target h.0) (compound ctx c value h.1)
  stmt ctx c (return l none) h = nothing N
  stmt ctx c (return l (some e)) h = expr ctx c e h
  stmt ctx c (loop l body) h = stmt ctx c body h
  stmt ctx c (while l condition body) h = both N (expr ctx c condition h.0) (stmt ctx c body h.1)
  stmt ctx c (break l) h = nothing N
  stmt ctx c («if» l condition body) h = both N (expr ctx c condition h.0) (stmt ctx c body h.1)
  stmt ctx c (if_else l condition trueBody false_body) h =
      three N (expr ctx c condition h.0) (stmt ctx c trueBody h.1.0) (stmt (context_after ctx trueBody) (after ctx c trueBody h.1.0) false_body h.1.1)
  stmt ctx c (inline_assembly l) h = nothing N
  stmt ctx c no_statements h = nothing N
  stmt ctx c (statement_then s rest) h = both N (stmt ctx c s h.0) (stmt (context_after ctx s) (after ctx c s h.0) rest h.1)

  -- Items in pass 2
  body : (ctx : Context) → NamedContext N ctx → (b : Option Statement) → InBody N O L b → Slots N (body_slots ctx b)
  unfolding InBody
  body ctx c none h = nothing N
  body ctx c (some s) h = stmt ctx c s h

  slots : (ctx : ModuleContext) → NamedModule N ctx → (i : Item) → InItem N O L i → Slots N (item_slots ctx i)
  unfolding item_slots InDeclaration InCode
  slots ctx m (function_definition l name returned ps b) h =
      let d = h.declared in
      three N (conversion N ctx m returned d.1.0) (parameters N ctx m ps d.1.1) (body (function_context ctx returned ps) (in_function_lem N ctx m returned ps d.1.1) b h.code)
  slots ctx m (type_alias l name is_distinct internal t) h = conversion N ctx m t h.declared.1
  slots ctx m (global_declaration l name t value) h =
      both N (conversion N ctx m t h.declared) (initial (context ctx blank) (record { in_module = m; variables = λ name. tt; arguments = λ name. tt }) value h.code)
  slots ctx m other_item h = nothing N

  pub in_pass_2 : (ctx : ModuleContext) → NamedModule N ctx → (i : Item) → InItem N O L i → All (NamesIn N) (item_types ctx i)
  in_pass_2 ctx m i h = slot_types_lem N (slots ctx m i h)
