-- Unfolded types (document 01, "Words of demand 3"): a row unfolded is its words, each row number among them replaced by that row unfolded.
-- One node serves every kind, so that a definition over types has two clauses. A row's fifth word is no part of it: it follows from the
-- others (`size_word`), so rows that unfold to the same have the same (`same_size`).
use Rattle.std.specs.Prelude.{ℕ, suc, Bool, true, false, cond, not, ◌&&◌, ◌||◌, List, [], ◌∷◌, ◌++◌, eqb}
use Rattle.std.proofs.Math.Option.{Option, none, some}

-- `end` is the row number 0: no row, or the end of a list of cells.
-- The second word of an array's row is a size and no row number, so a node has a place for either.
pub data Ty : Type 0 where
  end : Ty
  node : (kind : ℕ) → (first second : Ty) → (size name : ℕ) → Ty

abbrev pub kind_of : Ty → ℕ
kind_of end = 0
kind_of (node k a b s n) = k

abbrev pub first_of : Ty → Ty
first_of end = end
first_of (node k a b s n) = a

abbrev pub second_of : Ty → Ty
second_of end = end
second_of (node k a b s n) = b

abbrev pub size_of : Ty → ℕ
size_of end = 0
size_of (node k a b s n) = s

abbrev pub name_of : Ty → ℕ
name_of end = 0
name_of (node k a b s n) = n

-- The 13 kinds of rows
abbrev pub unknown_kind : ℕ
unknown_kind = 1

abbrev pub void_kind : ℕ
void_kind = 2

abbrev pub bool_kind : ℕ
bool_kind = 3

abbrev pub u16_kind : ℕ
u16_kind = 4

abbrev pub i16_kind : ℕ
i16_kind = 5

abbrev pub pointer_kind : ℕ
pointer_kind = 6

abbrev pub array_kind : ℕ
array_kind = 7

abbrev pub struct_kind : ℕ
struct_kind = 8

abbrev pub function_kind : ℕ
function_kind = 9

abbrev pub alias_kind : ℕ
alias_kind = 10

abbrev pub distinct_kind : ℕ
distinct_kind = 11

abbrev pub field_kind : ℕ
field_kind = 12

abbrev pub argument_kind : ℕ
argument_kind = 13

-- The types by name
abbrev pub unknown : Ty
unknown = node unknown_kind end end 0 0

abbrev pub void : Ty
void = node void_kind end end 0 0

abbrev pub bool : Ty
bool = node bool_kind end end 0 0

abbrev pub u16 : Ty
u16 = node u16_kind end end 0 0

abbrev pub i16 : Ty
i16 = node i16_kind end end 0 0

abbrev pub pointer : (pointee : Ty) → Ty
pointer t = node pointer_kind t end 0 0

abbrev pub array : (element : Ty) → (size : ℕ) → Ty
array t size = node array_kind t end size 0

-- `fields`: the first field cell, or `end`
abbrev pub struct : (fields : Ty) → Ty
struct fields = node struct_kind fields end 0 0

-- `arguments`: the first argument cell, or `end`
abbrev pub function : (returned arguments : Ty) → Ty
function returned arguments = node function_kind returned arguments 0 0

abbrev pub alias : Ty → (name : ℕ) → Ty
alias t name = node alias_kind t end 0 name

abbrev pub distinct : Ty → (name : ℕ) → Ty
distinct t name = node distinct_kind t end 0 name

abbrev pub field : Ty → (rest : Ty) → (name : ℕ) → Ty
field t rest name = node field_kind t rest 0 name

abbrev pub argument : Ty → (rest : Ty) → Ty
argument t rest = node argument_kind t rest 0 0

-- The name of String, a number that no name of a module has
abbrev pub string_name : ℕ
string_name = 65535

abbrev pub string : Ty
string = distinct (pointer u16) string_name

-- The types of rows 1 to 7
abbrev pub fixed_types : List Ty
fixed_types = unknown ∷ void ∷ bool ∷ u16 ∷ i16 ∷ pointer u16 ∷ string ∷ []

-- Tests of a type's kind
abbrev pub is : (kind : ℕ) → Ty → Bool
is kind t = eqb (kind_of t) kind

abbrev pub is_integral : Ty → Bool
is_integral t = is u16_kind t || is i16_kind t

-- Equality of unfolded types
unfoldable pub same : Ty → Ty → Bool
same end end = true
same end (node k a b s n) = false
same (node k a b s n) end = false
same (node k a b s n) (node k' a' b' s' n') = eqb k k' && same a a' && same b b' && eqb s s' && eqb n n'

-- Whether a list has the type
unfoldable pub member : Ty → List Ty → Bool
member t [] = false
member t (u ∷ l) = same t u || member t l

-- How many distinct types a list has
unfoldable pub distinct_count : List Ty → ℕ
distinct_count [] = 0
distinct_count (t ∷ l) = cond (member t l) (distinct_count l) (suc (distinct_count l))

-- Desugar: transparent aliases stripped at the top, not inside
unfoldable pub desugar : Ty → Ty
desugar end = end
desugar (node k a b s n) = cond (eqb k alias_kind) (desugar a) (node k a b s n)

-- `remove_aliasing`: aliases of both sorts stripped at the top
unfoldable pub remove_aliasing : Ty → Ty
remove_aliasing end = end
remove_aliasing (node k a b s n) = cond (eqb k alias_kind || eqb k distinct_kind) (remove_aliasing a) (node k a b s n)

-- Distinct aliases stripped at the top, as far as the type that is wanted
unfoldable pub strip_to : (wanted : Ty) → Ty → Ty
strip_to wanted end = end
strip_to wanted (node k a b s n) = cond (eqb k distinct_kind && not (same wanted (node k a b s n))) (strip_to wanted a) (node k a b s n)

-- A type, its parts and their list cells: the rows that it needs
unfoldable pub parts : Ty → List Ty
parts end = []
parts (node k a b s n) = node k a b s n ∷ parts a ++ parts b

-- How many cells a list has
unfoldable pub cell_count : Ty → ℕ
cell_count end = 0
cell_count (node k a b s n) = suc (cell_count b)

-- The type of the first field cell of that name
unfoldable pub field_named : (name : ℕ) → (cells : Ty) → Option Ty
field_named name end = none
field_named name (node k a b s n) = cond (eqb n name) (some a) (field_named name b)
