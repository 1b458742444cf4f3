-- The bytes of a name: "from the module's names, or from the lent built-in text for String".
use Rattle.std.specs.Prelude.{ℕ, ◌≤◌, ◌<◌, ◌≡◌, cond, List, [], ◌⊎◌, get_or, eqb}
use Rattle.types.specs.Ty.{string_name, kind_of, name_of, alias_kind, field_kind}
use Rattle.types.specs.Table.{Table, unfolded}
use Rattle.names.specs.Names.{name_count, names_of}
use Rattle.listing.specs.Names.{NamesListed}

-- The bytes of a name by its number
unfoldable pub name_text : (s built_in : List ℕ) → (name : ℕ) → List ℕ
name_text s built_in name = cond (eqb name string_name) built_in (get_or (names_of s) name [])

-- A name of the module, or String's
abbrev pub NameExists : (s : List ℕ) → (name : ℕ) → Type 0
NameExists s name = (name ≡ string_name) ⊎ (name < name_count s)

-- Every name of the rows 1 to `count` exists: "a name number past the list, row 7 excepted" is refused. Aliases and fields have names
pub record NamesExist (s w : List ℕ) (count : ℕ) : Type 0 where
  pub each : (n : ℕ) → 1 ≤ n → n ≤ count → alias_kind ≤ kind_of (unfolded w n) → kind_of (unfolded w n) ≤ field_kind
      → NameExists s (name_of (unfolded w n))

-- The rows 1 to `count` have texts: they keep the rules of a table, the places of the names are listed, and every name of a row exists
pub record Printable (s places w : List ℕ) (count : ℕ) : Type 0 where
  pub table : Table w count
  pub listed : NamesListed s places
  pub exist : NamesExist s w count
