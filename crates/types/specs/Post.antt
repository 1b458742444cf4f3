-- What the functions of the table promise.
use Rattle.std.specs.Prelude.{ℕ, zero, suc, ◌+◌, ◌*◌, ◌^◌, ◌≤◌, ◌<◌, ◌≡◌, Bool, true, false, cond, ◌||◌, Option, Some, None, List, ◌⊎◌, eqb, ltb, length, get_or}
use Rattle.std.proofs.Math.Option.{Option as Maybe, none, some}
use Rattle.types.specs.Ty.{Ty, same, member, fixed_types, kind_of, first_of, pointer, array, struct, function, alias}
use Rattle.types.specs.Ty.{distinct, field, argument, pointer_kind, array_kind, struct_kind, function_kind, alias_kind}
use Rattle.types.specs.Ty.{distinct_kind, field_kind, argument_kind, string_name}
use Rattle.types.specs.Table.{Words, words, row_width, row_at, size_word_at, fixed_count, fixed_length, unfolded, has_type}
use Rattle.types.specs.Table.{Table, Extends, IsType, IsCell}
pub use Rattle.rows.specs.Row.{stored}
pub use Rattle.rows.specs.Search.{Found}
use Rattle.types.specs.declared.Row.{Row}
use Rattle.types.specs.declared.Row.TheVariants.{Pointer, Array, Struct, Function, Alias, DistinctAlias, Field}
use Rattle.types.specs.declared.Row.TheVariants.{Argument}
use Rattle.types.specs.declared.Interned.{Interned}

-- The type of a row that is asked for, where `look` unfolds its parts
abbrev pub type_of_row : Row → (look : ℕ → Ty) → Ty
type_of_row (Pointer t) look = pointer (look t)
type_of_row (Array t size) look = array (look t) size
type_of_row (Struct fields) look = struct (look fields)
type_of_row (Function returned arguments) look = function (look returned) (look arguments)
type_of_row (Alias t name) look = alias (look t) name
type_of_row (DistinctAlias t name) look = distinct (look t) name
type_of_row (Field t rest name) look = field (look t) (look rest) name
type_of_row (Argument t rest) look = argument (look t) (look rest)

-- Its words
abbrev pub words_of : Row → Words
words_of (Pointer t) = words pointer_kind t 0 0
words_of (Array t size) = words array_kind t size 0
words_of (Struct fields) = words struct_kind fields 0 0
words_of (Function returned arguments) = words function_kind returned arguments 0
words_of (Alias t name) = words alias_kind t 0 name
words_of (DistinctAlias t name) = words distinct_kind t 0 name
words_of (Field t rest name) = words field_kind t rest name
words_of (Argument t rest) = words argument_kind t rest 0

-- Its parts are rows of the table, of the right sort; no name but String's is 65535
abbrev pub PartsOk : List ℕ → (count : ℕ) → Row → Type 0
PartsOk w c (Pointer t) = IsType w c t
PartsOk w c (Array t size) = IsType w c t
PartsOk w c (Struct fields) = IsCell w c field_kind fields
PartsOk w c (Function returned arguments) = IsType w c returned × IsCell w c argument_kind arguments
PartsOk w c (Alias t name) = IsType w c t × (name ≡ string_name → ⊥)
PartsOk w c (DistinctAlias t name) = IsType w c t × (name ≡ string_name → ⊥)
PartsOk w c (Field t rest name) = IsType w c t × IsCell w c field_kind rest × (name ≡ string_name → ⊥)
PartsOk w c (Argument t rest) = IsType w c t × IsCell w c argument_kind rest

-- Its number n is a type row's, or a cell's
abbrev pub Sort : List ℕ → (count : ℕ) → Row → (n : ℕ) → Type 0
Sort w c (Pointer t) n = IsType w c n
Sort w c (Array t size) n = IsType w c n
Sort w c (Struct fields) n = IsType w c n
Sort w c (Function returned arguments) n = IsType w c n
Sort w c (Alias t name) n = IsType w c n
Sort w c (DistinctAlias t name) n = IsType w c n
Sort w c (Field t rest name) n = IsCell w c field_kind n
Sort w c (Argument t rest) n = IsCell w c argument_kind n

-- Row n of the count' rows of w' is the type t; the set of types has t, and no other, in addition
pub record Added (w : List ℕ) (count : ℕ) (t : Ty) (w' : List ℕ) (n count' : ℕ) : Type 0 where
  pub table : Table w' count'
  pub extends : Extends w count w' count'
  pub low : 1 ≤ n
  pub high : n ≤ count'
  pub type : unfolded w' n ≡ t
  pub types : (u : Ty) → has_type w' count' u ≡ (has_type w count u || same u t)
  pub counted : count' ≡ cond (has_type w count t) count (count + 1)

-- Nothing is changed: the type is none of the table's, and one more row does not fit
pub record NoRoom (w : List ℕ) (count : ℕ) (t : Ty) (w' : List ℕ) : Type 0 where
  pub kept : w' ≡ w
  pub absent : has_type w count t ≡ false
  pub full : (length w < row_width * (count + 1)) ⊎ (2 ^ 32 ≤ count + 1)

-- The answer of `intern`, by cases
abbrev pub InternPost : List ℕ → (count : ℕ) → Row → List ℕ → Option Interned → Type 0
InternPost w count r w' (Some a) = Added w count (type_of_row r (unfolded w)) w' a.number a.count × Sort w' a.count r a.number
InternPost w count r w' None = NoRoom w count (type_of_row r (unfolded w)) w'

-- How many rows there are after `intern`
abbrev pub count_after : (count : ℕ) → Option Interned → ℕ
count_after count (Some a) = a.count
count_after count None = count

-- The seven fixed rows are stored, and no other word is changed
pub record FixedStored (w w' : List ℕ) : Type 0 where
  pub table : Table w' fixed_count
  pub types : (t : Ty) → has_type w' fixed_count t ≡ member t fixed_types
  pub long : length w' ≡ length w
  pub past : (i : ℕ) → fixed_length ≤ i → get_or w' i 0 ≡ get_or w i 0

-- r is a type row below n that unfolds to t
pub record TypePart (w : List ℕ) (count n : ℕ) (t : Ty) (r : ℕ) : Type 0 where
  pub is : IsType w count r
  pub lower : r < n
  pub type : unfolded w r ≡ t

-- A test goes on from aliases alone
abbrev pub OnlyAliases : List ℕ → (count : ℕ) → (Says : (at : ℕ) → Words → Bool → Type 0) → Type 0
OnlyAliases w count Says = (at : ℕ) (r : Words) → IsType w count at → r ≡ row_at w at → Says at r false → alias_kind ≤ r.kind

-- `strip` leaves a row as it is where the test stops, and else goes on to what the row is an alias of
pub record Strips (strip : Ty → Ty) (w : List ℕ) (count : ℕ) (Says : (at : ℕ) → Words → Bool → Type 0) : Type 0 where
  pub stays : (at : ℕ) (r : Words) → IsType w count at → r ≡ row_at w at → Says at r true → strip (unfolded w at) ≡ unfolded w at
  pub goes_on : (at : ℕ) (r : Words) → IsType w count at → r ≡ row_at w at → Says at r false → strip (unfolded w at) ≡ strip (first_of (unfolded w at))

-- r is the row that is left of row n, of which is stripped what the test says
pub record StrippedBy (w : List ℕ) (count n : ℕ) (Says : (at : ℕ) → Words → Bool → Type 0) (r : ℕ) : Type 0 where
  pub is : IsType w count r
  pub lower : r < n + 1
  pub type : (strip : Ty → Ty) → Strips strip w count Says → unfolded w r ≡ strip (unfolded w n)

-- r is 0 or a cell of kind k, below n, and unfolds to the list t
pub record CellPart (w : List ℕ) (count n k : ℕ) (t : Ty) (r : ℕ) : Type 0 where
  pub is : IsCell w count k r
  pub lower : r < n
  pub type : unfolded w r ≡ t

-- r is the type row of what was found, or 0 if nothing was
pub record FoundType (w : List ℕ) (count : ℕ) (found : Maybe Ty) (r : ℕ) : Type 0 where
  pub absent : r ≡ 0 → found ≡ none
  pub is : 1 ≤ r → IsType w count r
  pub type : 1 ≤ r → found ≡ some (unfolded w r)

-- The kinds whose first word is a type row: all with parts but a struct
abbrev pub HasTypePart : Ty → Type 0
HasTypePart t = (pointer_kind ≤ kind_of t) × (kind_of t ≡ struct_kind → ⊥)

-- The highest row that a row points to, or 0: a size is no row
abbrev pub highest_part : Words → ℕ
highest_part r = cond (eqb r.kind array_kind) r.first (cond (ltb r.first r.second) r.second r.first)

-- The fifth word of row n; the number 0 has 0 words
abbrev pub part_word : List ℕ → (n : ℕ) → ℕ
part_word w zero = 0
part_word w (suc n) = size_word_at w (suc n)
