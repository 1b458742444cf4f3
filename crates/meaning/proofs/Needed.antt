-- None of the three suppositions of demand 3 can be left out: for each, two orders of a few items that go against it alone, and how their results differ.
use mathlib.Core.Path.{◌≡◌, refl}
use mathlib.Core.Bool.{true, false, cond}
use mathlib.Core.Option.{none, some}
use mathlib.Core.List.{[], ◌∷◌}
use lib.Dec.{eqb}
use Rattle.types.specs.Ty.{u16, i16, alias, distinct}
use Rattle.trees.specs.Tree.{location, name_type, identifier, no_value, assigned, Item, type_alias, global_declaration}
use Rattle.meaning.specs.Context.{TypeMap, insert_all, each}
use Rattle.meaning.specs.Convert.{convert_node_type, conversion_errors, conversion_slots}
use Rattle.meaning.specs.Expression.{expression_type, expression_slots}
use Rattle.meaning.specs.Compound.{global_initial_errors, initial_slots}
use Rattle.meaning.specs.Module.{is_taken, alias_entries, global_entries, declaration_errors, declarations, declare_all, module_context, item_errors, item_slots, item_types, module_errors, error_count}

-- Names 8 and 9 are those of i16 and u16
built_ins : TypeMap
built_ins name = cond (eqb name 8) (some i16) (cond (eqb name 9) (some u16) none)

-- type A = u16
transparent : Item
transparent = type_alias (location 0 0 1 1) 0 false false (name_type (location 0 0 1 2) 9)

-- distinct type A = u16
opaque : Item
opaque = type_alias (location 0 0 2 1) 0 true false (name_type (location 0 0 2 2) 9)

-- x : A
of_alias : Item
of_alias = global_declaration (location 0 0 3 1) 1 (name_type (location 0 0 3 2) 0) no_value

-- x : i16
of_i16 : Item
of_i16 = global_declaration (location 0 0 4 1) 1 (name_type (location 0 0 4 2) 8) no_value

-- x : u16
of_u16 : Item
of_u16 = global_declaration (location 0 0 5 1) 1 (name_type (location 0 0 5 2) 9) no_value

-- y : u16 = x
of_x : Item
of_x = global_declaration (location 0 0 6 1) 2 (name_type (location 0 0 6 2) 9) (assigned (identifier (location 0 0 6 3) 1))

-- An alias that does not precede the item that names it: one error more
late_alias_lem : (error_count built_ins (transparent ∷ of_alias ∷ []) ≡ 0) × (error_count built_ins (of_alias ∷ transparent ∷ []) ≡ 1)
unfolding built_ins transparent of_alias module_errors declarations declare_all each insert_all is_taken alias_entries global_entries declaration_errors convert_node_type conversion_errors item_errors global_initial_errors
late_alias_lem = (refl, refl)

-- Two aliases of one name: the type of x is the first
two_aliases : (item_types (module_context built_ins (transparent ∷ opaque ∷ of_alias ∷ [])) of_alias ≡ alias u16 0 ∷ [])
    × (item_types (module_context built_ins (opaque ∷ transparent ∷ of_alias ∷ [])) of_alias ≡ distinct u16 0 ∷ [])
unfolding built_ins transparent opaque of_alias declare_all insert_all is_taken alias_entries global_entries convert_node_type conversion_slots item_slots initial_slots
two_aliases = (refl, refl)

-- Two variables of one name: the value of y is of the later one's type
two_globals : (item_types (module_context built_ins (of_i16 ∷ of_u16 ∷ of_x ∷ [])) of_x ≡ u16 ∷ u16 ∷ [])
    × (item_types (module_context built_ins (of_u16 ∷ of_i16 ∷ of_x ∷ [])) of_x ≡ u16 ∷ i16 ∷ [])
unfolding built_ins of_i16 of_u16 of_x declare_all insert_all is_taken alias_entries global_entries convert_node_type conversion_slots item_slots initial_slots expression_slots expression_type
two_globals = (refl, refl)
