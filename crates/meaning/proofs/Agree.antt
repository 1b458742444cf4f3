-- Pass 1 looks at a module's context only for its built-in types and for what an item's declared types name.
use Prim.Native.Nat.{ℕ}
use mathlib.Core.Path.{◌≡◌, refl, ap, ap₂}
use mathlib.Core.Bool.{Bool, true, false, cond}
use mathlib.Core.Option.{none}
use mathlib.Core.List.{List, [], ◌∷◌, ◌++◌, map, Mem, Subset, mem-cons_self, mem-append_left, mem-append_right, not-mem-nil}
use Rattle.types.specs.Ty.{Ty, pointer, array, struct, field, function, argument}
use Rattle.trees.specs.Tree.{TypeNode, name_type, void_type, pointer_type, array_type, struct_type, no_fields, field_then, Parameter, Item, function_definition, type_alias, global_declaration, other_item}
use Rattle.meaning.specs.TypeError.{TypeError, unless, unknown_type}
use Rattle.meaning.specs.Context.{TypeMap, Entry, entry, ModuleContext, type_named, is_some, or_unknown, each}
use Rattle.meaning.specs.Convert.{slot, convert_node_type, conversion_errors, conversion_slots}
use Rattle.meaning.specs.Module.{parameter_errors, argument_cells, alias_errors, is_stored, aliased, is_taken, alias_entries, global_entries, declaration_errors, slot_type, parameter_types, declared_types}
use Rattle.meaning.proofs.Maps.{keys}
use Rattle.meaning.specs.JoiningOrder.{named_in, named_in_parameter, names_in_declared_types, alias_name, global_name}

-- What pass 1 takes from an item: its errors, the types that it converts, and what it stores
pub record Declared : Type 0 where
  pub errors : List TypeError
  pub converted : List Ty
  pub aliases : List Entry
  pub globals : List Entry

abbrev pub declared : ModuleContext → (taken : Bool) → Item → Declared
declared ctx taken item =
    record {
      errors = declaration_errors ctx taken item;
      converted = declared_types ctx item;
      aliases = alias_entries ctx taken item;
      globals = global_entries ctx item;
    }

-- Two contexts give these names the same types
abbrev pub SameNamed : (c d : ModuleContext) → (names : List ℕ) → Type 0
SameNamed c d names = (name : ℕ) → Mem name names → type_named c name ≡ type_named d name

module _ (c d : ModuleContext) where
  same_left : (a b : List ℕ) → SameNamed c d (a ++ b) → SameNamed c d a
  same_left a b h name m = h name (mem-append_left b m)

  same_right : (a b : List ℕ) → SameNamed c d (a ++ b) → SameNamed c d b
  same_right a b h name m = h name (mem-append_right a m)

  -- A type, its errors and its slots
  same_type : (t : TypeNode) → SameNamed c d (named_in t) → convert_node_type c t ≡ convert_node_type d t
  unfolding convert_node_type named_in
  same_type (name_type l name) h = ap or_unknown (h name mem-cons_self)
  same_type (void_type l) h = refl
  same_type (pointer_type l t) h = ap pointer (same_type t h)
  same_type (array_type l size t) h = ap (λ x. array x size) (same_type t h)
  same_type (struct_type l fields) h = ap struct (same_type fields h)
  same_type no_fields h = refl
  same_type (field_then name t rest) h =
      ap₂ (λ x y. field x y name) (same_type t (same_left (named_in t) (named_in rest) h)) (same_type rest (same_right (named_in t) (named_in rest) h))

  same_errors : (t : TypeNode) → SameNamed c d (named_in t) → conversion_errors c t ≡ conversion_errors d t
  unfolding conversion_errors named_in
  same_errors (name_type l name) h = ap (λ x. unless (is_some x) (unknown_type l name)) (h name mem-cons_self)
  same_errors (void_type l) h = refl
  same_errors (pointer_type l t) h = same_errors t h
  same_errors (array_type l size t) h = same_errors t h
  same_errors (struct_type l fields) h = same_errors fields h
  same_errors no_fields h = refl
  same_errors (field_then name t rest) h =
      ap₂ (λ x y. x ++ y) (same_errors t (same_left (named_in t) (named_in rest) h)) (same_errors rest (same_right (named_in t) (named_in rest) h))

  same_slots : (t : TypeNode) → SameNamed c d (named_in t) → conversion_slots c t ≡ conversion_slots d t
  unfolding conversion_slots named_in
  same_slots (name_type l name) h = ap (λ x. slot l x ∷ []) (same_type (name_type l name) h)
  same_slots (void_type l) h = refl
  same_slots (pointer_type l t) h = ap₂ (λ x y. slot l x ∷ y) (same_type (pointer_type l t) h) (same_slots t h)
  same_slots (array_type l size t) h = ap₂ (λ x y. slot l x ∷ y) (same_type (array_type l size t) h) (same_slots t h)
  same_slots (struct_type l fields) h = ap₂ (λ x y. slot l x ∷ y) (same_type (struct_type l fields) h) (same_slots fields h)
  same_slots no_fields h = refl
  same_slots (field_then name t rest) h =
      ap₂ (λ x y. x ++ y) (same_slots t (same_left (named_in t) (named_in rest) h)) (same_slots rest (same_right (named_in t) (named_in rest) h))

  -- Parameters
  same_parameter_types : (ps : List Parameter) → SameNamed c d (each named_in_parameter ps) → each (parameter_types c) ps ≡ each (parameter_types d) ps
  unfolding each
  same_parameter_types [] h = refl
  same_parameter_types (p ∷ ps) h =
      ap₂ (λ x y. map slot_type x ++ y) (same_slots p.type (same_left (named_in_parameter p) (each named_in_parameter ps) h))
      (same_parameter_types ps (same_right (named_in_parameter p) (each named_in_parameter ps) h))

  same_cells : (ps : List Parameter) → SameNamed c d (each named_in_parameter ps) → argument_cells c ps ≡ argument_cells d ps
  unfolding argument_cells each
  same_cells [] h = refl
  same_cells (p ∷ ps) h =
      ap₂ argument (same_type p.type (same_left (named_in_parameter p) (each named_in_parameter ps) h))
      (same_cells ps (same_right (named_in_parameter p) (each named_in_parameter ps) h))

  same_parameter_errors : (ps : List Parameter) → SameNamed c d (each named_in_parameter ps) → each (parameter_errors c) ps ≡ each (parameter_errors d) ps
  unfolding each
  same_parameter_errors [] h = refl
  same_parameter_errors (p ∷ ps) h =
      ap₂ (λ x y. x ++ y) (same_errors p.type (same_left (named_in_parameter p) (each named_in_parameter ps) h))
      (same_parameter_errors ps (same_right (named_in_parameter p) (each named_in_parameter ps) h))

  -- An item
  pub same_declared : (taken : Bool) (item : Item) → c.built_ins ≡ d.built_ins → SameNamed c d (names_in_declared_types item)
      → declared c taken item ≡ declared d taken item
  unfolding declaration_errors declared_types alias_entries global_entries names_in_declared_types
  same_declared taken (function_definition l name returned parameters body) b h =
      let first = same_left (named_in returned) (each named_in_parameter parameters) h in
      let later = same_right (named_in returned) (each named_in_parameter parameters) h in
      λ i. record {
        errors = same_errors returned first i ++ same_parameter_errors parameters later i;
        converted = map slot_type (same_slots returned first i) ++ same_parameter_types parameters later i;
        aliases = [];
        globals = entry name (function (same_type returned first i) (same_cells parameters later i)) ∷ [];
      }
  same_declared taken (type_alias l name is_distinct internal t) b h =
      λ i. record {
        errors = same_errors t h i ++ alias_errors l name internal taken (b i name) (same_type t h i);
        converted = map slot_type (same_slots t h i);
        aliases = cond (is_stored internal taken (b i name)) (entry name (aliased is_distinct name (same_type t h i)) ∷ []) [];
        globals = [];
      }
  same_declared taken (global_declaration l name t value) b h =
      λ i. record { errors = same_errors t h i; converted = map slot_type (same_slots t h i); aliases = []; globals = entry name (same_type t h i) ∷ [] }
  same_declared taken other_item b h = refl

-- The names that an item's aliases have are free
abbrev pub Free : TypeMap → Item → Type 0
Free aliases item = (name : ℕ) → Mem name (alias_name item) → aliases name ≡ none

-- Then the item is declared as if none was taken
pub free_declared : (ctx : ModuleContext) (aliases : TypeMap) (item : Item) → Free aliases item
    → declared ctx (is_taken aliases item) item ≡ declared ctx false item
unfolding declaration_errors declared_types alias_entries global_entries is_taken alias_name
free_declared ctx aliases (function_definition l name returned parameters body) h = refl
free_declared ctx aliases (type_alias l name is_distinct true t) h = refl
free_declared ctx aliases (type_alias l name is_distinct false t) h =
    ap (λ x. declared ctx (is_some x) (type_alias l name is_distinct false t)) (h name mem-cons_self)
free_declared ctx aliases (global_declaration l name t value) h = refl
free_declared ctx aliases other_item h = refl

-- An item stores an alias and a global only under its own name
pub alias_keys : (ctx : ModuleContext) (taken : Bool) (item : Item) → Subset (keys (alias_entries ctx taken item)) (alias_name item)
unfolding alias_entries alias_name
alias_keys ctx taken (function_definition l n returned parameters body) name m = m
alias_keys ctx taken (type_alias l n is_distinct true t) name m = m
alias_keys ctx taken (type_alias l n is_distinct false t) name m = go (is_stored false taken (ctx.built_ins n)) m
  where
    go : (b : Bool) → Mem name (keys (cond b (entry n (aliased is_distinct n (convert_node_type ctx t)) ∷ []) [])) → Mem name (n ∷ [])
    go true m = m
    go false m = absurd (not-mem-nil m)
alias_keys ctx taken (global_declaration l n t value) name m = m
alias_keys ctx taken other_item name m = m

pub global_keys : (ctx : ModuleContext) (item : Item) → Subset (keys (global_entries ctx item)) (global_name item)
unfolding global_entries global_name
global_keys ctx (function_definition l n returned parameters body) name m = m
global_keys ctx (type_alias l n is_distinct internal t) name m = m
global_keys ctx (global_declaration l n t value) name m = m
global_keys ctx other_item name m = m
