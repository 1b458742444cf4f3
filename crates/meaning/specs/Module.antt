-- `type_check_module`: pass 1 over the items' declared types, pass 2 over the items.
use Rattle.std.specs.Prelude.{ℕ, Bool, true, false, cond, ◌||◌, List, [], ◌∷◌, ◌++◌, map, length}
use Rattle.std.proofs.Math.Option.{Option, none, some}
use Rattle.types.specs.Ty.{Ty, end, void, function, argument, alias, distinct, same, remove_aliasing, parts, fixed_types}
use Rattle.types.specs.Ty.{distinct_count}
use Rattle.trees.specs.Tree.{Location, TypeNode, Statement, Parameter, Item, function_definition, type_alias}
use Rattle.trees.specs.Tree.{global_declaration, other_item}
use Rattle.meaning.specs.TypeError.{TypeError, unless, no_built_in_for_internal, internal_mismatch, duplicate_alias}
use Rattle.meaning.specs.TypeError.{alias_of_built_in, paths_without_return}
use Rattle.meaning.specs.Context.{TypeMap, no_types, is_some, Entry, entry, insert_all, each, ModuleContext, Context}
use Rattle.meaning.specs.Context.{context, blank}
use Rattle.meaning.specs.Convert.{Slot, convert_node_type, conversion_errors, conversion_slots}
use Rattle.meaning.specs.Compound.{global_initial_errors, initial_slots}
use Rattle.meaning.specs.Statement.{statement_errors, statement_slots}
use Rattle.meaning.specs.Divergence.{do_all_paths_diverge}

-- Parameters
abbrev pub parameter_entry : ModuleContext → Parameter → Entry
parameter_entry ctx p = entry p.name (convert_node_type ctx p.type)

abbrev pub parameter_errors : ModuleContext → Parameter → List TypeError
parameter_errors ctx p = conversion_errors ctx p.type

abbrev pub parameter_slots : ModuleContext → Parameter → List Slot
parameter_slots ctx p = conversion_slots ctx p.type

unfoldable pub argument_cells : ModuleContext → List Parameter → Ty
argument_cells ctx [] = end
argument_cells ctx (p ∷ ps) = argument (convert_node_type ctx p.type) (argument_cells ctx ps)

-- Of equal parameters the last counts
abbrev pub argument_map : ModuleContext → List Parameter → TypeMap
argument_map ctx ps = insert_all (map (parameter_entry ctx) ps) no_types

-- Pass 1. An alias is compared with the built-in type of its name if it is internal; a stored alias of its name or a built-in type is an error
-- else. Kind 3 compares with aliases of both sorts stripped at the top
abbrev pub internal_errors : Location → (name : ℕ) → (built_in : Option Ty) → Ty → List TypeError
internal_errors l name none t = no_built_in_for_internal l name ∷ []
internal_errors l name (some b) t = unless (same (remove_aliasing t) (remove_aliasing b)) (internal_mismatch l name t)

-- `taken`: an alias of that name is stored already
abbrev pub alias_errors : Location → (name : ℕ) → (internal taken : Bool) → (built_in : Option Ty) → Ty → List TypeError
alias_errors l name true taken built_in t = internal_errors l name built_in t
alias_errors l name false true built_in t = duplicate_alias l name ∷ []
alias_errors l name false false none t = []
alias_errors l name false false (some b) t = alias_of_built_in l name ∷ []

-- An internal alias is never stored; the first alias of a name stays
abbrev pub is_stored : (internal taken : Bool) → (built_in : Option Ty) → Bool
is_stored true taken built_in = false
is_stored false true built_in = false
is_stored false false none = true
is_stored false false (some b) = false

abbrev pub aliased : (is_distinct : Bool) → (name : ℕ) → Ty → Ty
aliased true name t = distinct t name
aliased false name t = alias t name

unfoldable pub is_taken : TypeMap → Item → Bool
is_taken aliases (function_definition l name returned parameters body) = false
is_taken aliases (type_alias l name is_distinct internal t) = is_some (aliases name)
is_taken aliases (global_declaration l name t value) = false
is_taken aliases other_item = false

-- The alias that an item stores, if any
unfoldable pub alias_entries : ModuleContext → (taken : Bool) → Item → List Entry
alias_entries ctx taken (function_definition l name returned parameters body) = []
alias_entries ctx taken (type_alias l name is_distinct internal t) =
    cond (is_stored internal taken (ctx.built_ins name)) (entry name (aliased is_distinct name (convert_node_type ctx t)) ∷ []) []
alias_entries ctx taken (global_declaration l name t value) = []
alias_entries ctx taken other_item = []

-- The global that an item stores, if any; a later one of the same name replaces the earlier
unfoldable pub global_entries : ModuleContext → Item → List Entry
global_entries ctx (function_definition l name returned parameters body) = entry name (function (convert_node_type ctx returned) (argument_cells ctx parameters)) ∷ []
global_entries ctx (type_alias l name is_distinct internal t) = []
global_entries ctx (global_declaration l name t value) = entry name (convert_node_type ctx t) ∷ []
global_entries ctx other_item = []

-- The errors of an item in pass 1: the returned type, then the parameters
unfoldable pub declaration_errors : ModuleContext → (taken : Bool) → Item → List TypeError
declaration_errors ctx taken (function_definition l name returned parameters body) = conversion_errors ctx returned ++ each (parameter_errors ctx) parameters
declaration_errors ctx taken (type_alias l name is_distinct internal t) =
    conversion_errors ctx t ++ alias_errors l name internal taken (ctx.built_ins name) (convert_node_type ctx t)
declaration_errors ctx taken (global_declaration l name t value) = conversion_errors ctx t
declaration_errors ctx taken other_item = []

-- The types that T records are converted to, one for each record
abbrev pub slot_type : Slot → Ty
slot_type s = s.type

abbrev pub converted_types : ModuleContext → TypeNode → List Ty
converted_types ctx t = map slot_type (conversion_slots ctx t)

abbrev pub parameter_types : ModuleContext → Parameter → List Ty
parameter_types ctx p = converted_types ctx p.type

-- The types that pass 1 converts for an item
unfoldable pub declared_types : ModuleContext → Item → List Ty
declared_types ctx (function_definition l name returned parameters body) = converted_types ctx returned ++ each (parameter_types ctx) parameters
declared_types ctx (type_alias l name is_distinct internal t) = converted_types ctx t
declared_types ctx (global_declaration l name t value) = converted_types ctx t
declared_types ctx other_item = []

abbrev pub entry_type : Entry → Ty
entry_type e = e.type

-- The types that pass 1 converts or stores, replaced ones too
abbrev pub declaration_types : ModuleContext → (taken : Bool) → Item → List Ty
declaration_types ctx taken item = declared_types ctx item ++ map entry_type (alias_entries ctx taken item) ++ map entry_type (global_entries ctx item)

-- The context after an item
abbrev pub declare : ModuleContext → Item → ModuleContext
declare ctx item =
    record {
      built_ins = ctx.built_ins;
      type_aliases = insert_all (alias_entries ctx (is_taken ctx.type_aliases item) item) ctx.type_aliases;
      globals = insert_all (global_entries ctx item) ctx.globals;
    }

-- An item with the context that pass 1 meets it in
pub record Declaration : Type 0 where
  pub item : Item
  pub met : ModuleContext

unfoldable pub declarations : ModuleContext → List Item → List Declaration
declarations ctx [] = []
declarations ctx (i ∷ is) = record { item = i; met = ctx } ∷ declarations (declare ctx i) is

unfoldable pub declare_all : ModuleContext → List Item → ModuleContext
declare_all ctx [] = ctx
declare_all ctx (i ∷ is) = declare_all (declare ctx i) is

-- At the start of pass 1 nothing is stored
abbrev pub empty_context : (built_ins : TypeMap) → ModuleContext
empty_context built_ins = record { built_ins = built_ins; type_aliases = no_types; globals = no_types }

-- After pass 1
abbrev pub module_context : (built_ins : TypeMap) → List Item → ModuleContext
module_context built_ins items = declare_all (empty_context built_ins) items

abbrev pub errors_in1 : Declaration → List TypeError
errors_in1 d = declaration_errors d.met (is_taken d.met.type_aliases d.item) d.item

abbrev pub types_in1 : Declaration → List Ty
types_in1 d = declaration_types d.met (is_taken d.met.type_aliases d.item) d.item

-- Pass 2, an item at a time. A function's parameters are converted before the type that it returns
abbrev pub function_context : ModuleContext → (returned : TypeNode) → List Parameter → Context
function_context ctx returned parameters =
    context ctx (record { variables = no_types; arguments = argument_map ctx parameters; return_type = convert_node_type ctx returned })

-- Unless void itself is returned, all paths of a body must diverge
abbrev pub body_errors : Context → Location → (name : ℕ) → (body : Option Statement) → List TypeError
body_errors ctx l name none = []
body_errors ctx l name (some s) = statement_errors ctx s ++ unless (same ctx.in_function.return_type void || do_all_paths_diverge s) (paths_without_return l name)

abbrev pub body_slots : Context → (body : Option Statement) → List Slot
body_slots ctx none = []
body_slots ctx (some s) = statement_slots ctx s

unfoldable pub item_errors : ModuleContext → Item → List TypeError
item_errors ctx (function_definition l name returned parameters body) =
    each (parameter_errors ctx) parameters ++ conversion_errors ctx returned ++ body_errors (function_context ctx returned parameters) l name body
item_errors ctx (type_alias l name is_distinct internal t) = conversion_errors ctx t
item_errors ctx (global_declaration l name t value) = conversion_errors ctx t ++ global_initial_errors (context ctx blank) (convert_node_type ctx t) value
item_errors ctx other_item = []

-- The slots of an item in byte order
unfoldable pub item_slots : ModuleContext → Item → List Slot
item_slots ctx (function_definition l name returned parameters body) =
    conversion_slots ctx returned ++ each (parameter_slots ctx) parameters ++ body_slots (function_context ctx returned parameters) body
item_slots ctx (type_alias l name is_distinct internal t) = conversion_slots ctx t
item_slots ctx (global_declaration l name t value) = conversion_slots ctx t ++ initial_slots (context ctx blank) value
item_slots ctx other_item = []

-- The types that an item's slots get
abbrev pub item_types : ModuleContext → Item → List Ty
item_types ctx item = map slot_type (item_slots ctx item)

-- The whole module: its errors in order
unfoldable pub module_errors : (built_ins : TypeMap) → List Item → List TypeError
module_errors built_ins items =
    each errors_in1 (declarations (empty_context built_ins) items) ++ each (item_errors (module_context built_ins items)) items

-- The types that either pass converts or stores or an expression carries
unfoldable pub types_met : (built_ins : TypeMap) → List Item → List Ty
types_met built_ins items =
    each types_in1 (declarations (empty_context built_ins) items) ++ each (item_types (module_context built_ins items)) items

-- The rows: the fixed seven, and the types met with their parts and list cells (each as often as it is met)
unfoldable pub needed_types : (built_ins : TypeMap) → List Item → List Ty
needed_types built_ins items = fixed_types ++ each parts (types_met built_ins items)

abbrev pub row_count : (built_ins : TypeMap) → List Item → ℕ
row_count built_ins items = distinct_count (needed_types built_ins items)

abbrev pub error_count : (built_ins : TypeMap) → List Item → ℕ
error_count built_ins items = length (module_errors built_ins items)
