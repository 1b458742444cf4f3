-- What names stand for (`ModuleContext`, `LocalContext`, `Context` of type_check.rs).
use Rattle.std.specs.Prelude.{ℕ, Bool, true, false, cond, List, [], ◌∷◌, ◌++◌, eqb}
use Rattle.std.proofs.Math.Option.{Option, none, some}
use Rattle.types.specs.Ty.{Ty, unknown, void}

-- A map from the numbers of names to types
abbrev pub TypeMap : Type 0
TypeMap = (name : ℕ) → Option Ty

abbrev pub no_types : TypeMap
no_types name = none

abbrev pub is_some : {A : Type 0} → Option A → Bool
is_some none = false
is_some (some a) = true

abbrev pub or_else : {A : Type 0} → Option A → Option A → Option A
or_else none other = other
or_else (some a) other = some a

abbrev pub or_unknown : Option Ty → Ty
or_unknown none = unknown
or_unknown (some t) = t

-- A name and the type that a map is given for it
pub record Entry : Type 0 where
  pub name : ℕ
  pub type : Ty

abbrev pub entry : (name : ℕ) → Ty → Entry
entry name t = record { name = name; type = t }

-- A later entry replaces an earlier one
abbrev pub insert : Entry → TypeMap → TypeMap
insert e map name = cond (eqb name e.name) (some e.type) (map name)

unfoldable pub insert_all : List Entry → TypeMap → TypeMap
insert_all [] map = map
insert_all (e ∷ es) map = insert_all es (insert e map)

-- For each member of a list a list, one after the other
unfoldable pub each : {A B : Type 0} → (A → List B) → List A → List B
each f [] = []
each f (x ∷ l) = f x ++ each f l

-- Every member of a list
unfoldable pub All : {A : Type 0} → (A → Type 0) → List A → Type 0
All P [] = Unit {0}
All P (x ∷ l) = P x × All P l

-- Within a module: its built-in names, the aliases stored and the globals
pub record ModuleContext : Type 0 where
  pub built_ins : TypeMap
  pub type_aliases : TypeMap
  pub globals : TypeMap

-- Within a function: its locals, its arguments and the type that it returns
pub record LocalContext : Type 0 where
  pub variables : TypeMap
  pub arguments : TypeMap
  pub return_type : Ty

-- Outside of functions (`LocalContext::blank`)
abbrev pub blank : LocalContext
blank = record { variables = no_types; arguments = no_types; return_type = void }

pub record Context : Type 0 where
  pub in_module : ModuleContext
  pub in_function : LocalContext

abbrev pub context : ModuleContext → LocalContext → Context
context m l = record { in_module = m; in_function = l }

-- What a type's name stands for: an alias, then a built-in type
abbrev pub type_named : ModuleContext → (name : ℕ) → Option Ty
type_named ctx name = or_else (ctx.type_aliases name) (ctx.built_ins name)

-- `resolve_identifier`: locals precede arguments, then globals
abbrev pub resolve_identifier : Context → (name : ℕ) → Option Ty
resolve_identifier ctx name =
    or_else (ctx.in_function.variables name) (or_else (ctx.in_function.arguments name) (ctx.in_module.globals name))
