-- The table of type rows (document 01, "Type rows"): words in a lent slice, rows numbered from 1.
use Rattle.std.specs.Prelude.{ℕ, zero, suc, ◌+◌, ◌*◌, ◌^◌, ◌≤◌, ◌<◌, ◌≡◌, List, [], ◌∷◌, ◌++◌, Bool, true, false, cond, ◌||◌, ◌⊎◌, length, get_or, drop, eqb, ltb}
use Rattle.types.specs.Ty.{Ty, end, node, same, unknown_kind, void_kind, bool_kind, u16_kind, i16_kind, pointer_kind}
use Rattle.types.specs.Ty.{array_kind, struct_kind, function_kind, alias_kind, distinct_kind, field_kind, argument_kind}
use Rattle.types.specs.Ty.{string_name}
pub use Rattle.rows.specs.declared.Words.{Words}
pub use Rattle.rows.specs.Row.{row_width, words, row_from, row_at, size_word_at, Distinct}
pub use Rattle.rows.specs.Search.{Decides}
use Rattle.size_words.specs.SizeWords.{unknown_word}
use Rattle.types.specs.WordSize.{size_word}
use Rattle.types.specs.declared.PartKind.{PartKind}
use Rattle.types.specs.declared.PartKind.TheVariants.{Unused, TypeRow, Size, Fields, Arguments}

-- A row unfolded, where `look` unfolds the rows that it points to
abbrev pub build : Words → (look : ℕ → Ty) → Ty
build r look =
    node r.kind (look r.first) (cond (eqb r.kind array_kind) end (look r.second)) (cond (eqb r.kind array_kind) r.second 0) r.name

-- Rows 1 to m unfolded; every other number is `end`
unfoldable pub up_to : List ℕ → (m : ℕ) → ℕ → Ty
up_to w zero n = end
up_to w (suc m) n = elim (eqb n (suc m)) [ true ↦ build (row_at w (suc m)) (up_to w m) | false ↦ up_to w m n ]

-- Row n unfolded: a row points only to lower rows
unfoldable pub unfolded : List ℕ → (n : ℕ) → Ty
unfolded w n = up_to w n n

-- Whether one of the rows 1 to `count` unfolds to t: the table's types as a set
unfoldable pub has_type : List ℕ → (count : ℕ) → Ty → Bool
has_type w zero t = false
has_type w (suc m) t = has_type w m t || same t (unfolded w (suc m))

-- What the first word of a row is, by its kind
abbrev pub first_part : (kind : ℕ) → PartKind
first_part k = cond (ltb k pointer_kind) Unused (cond (eqb k struct_kind) Fields TypeRow)

-- What the second word is
abbrev pub second_part : (kind : ℕ) → PartKind
second_part k =
    cond (eqb k array_kind) Size (cond (eqb k field_kind) Fields (cond (eqb k function_kind || eqb k argument_kind) Arguments Unused))

-- v is a type row (no cell) among the rows 1 to m
pub record IsType (w : List ℕ) (m v : ℕ) : Type 0 where
  pub low : 1 ≤ v
  pub high : v ≤ m
  pub kind : (row_at w v).kind ≤ distinct_kind

-- v is 0, or a cell of kind k among the rows 1 to m
pub record IsCell (w : List ℕ) (m k v : ℕ) : Type 0 where
  pub high : v ≤ m
  pub kind : (v ≡ 0) ⊎ ((row_at w v).kind ≡ k)

-- v is 0 or a cell of either kind
abbrev pub IsList : List ℕ → (m v : ℕ) → Type 0
IsList w m v = IsCell w m field_kind v ⊎ IsCell w m argument_kind v

-- A word may stand where this part is due, behind the rows 1 to m
abbrev pub PartOk : List ℕ → (m : ℕ) → PartKind → (word : ℕ) → Type 0
PartOk w m Unused v = v ≡ 0
PartOk w m TypeRow v = IsType w m v
PartOk w m Size v = Unit {0}
PartOk w m Fields v = IsCell w m field_kind v
PartOk w m Arguments v = IsCell w m argument_kind v

-- Aliases and field cells have a name; the name of String is row 7's alone
pub record NameOk (n kind name : ℕ) : Type 0 where
  pub used : ((alias_kind ≤ kind) × (kind ≤ field_kind)) ⊎ (name ≡ 0)
  pub string : name ≡ string_name → n ≡ 7

-- r may stand as row m + 1 behind the rows 1 to m
pub record RowOk (w : List ℕ) (m : ℕ) (r : Words) : Type 0 where
  pub kind_low : 1 ≤ r.kind
  pub kind_high : r.kind ≤ argument_kind
  pub first : PartOk w m (first_part r.kind) r.first
  pub second : PartOk w m (second_part r.kind) r.second
  pub name : NameOk (m + 1) r.kind r.name

-- How many rows every table begins with
abbrev pub fixed_count : ℕ
fixed_count = 7

-- How many words they have
abbrev pub fixed_length : ℕ
fixed_length = row_width * fixed_count

-- Their words: Unknown, void, bool, u16, i16, pointer to u16 (row 4), and String, a distinct alias of row 6
abbrev pub fixed_words : List ℕ
fixed_words =
    unknown_kind ∷ 0 ∷ 0 ∷ 0 ∷ unknown_word
    ∷ void_kind ∷ 0 ∷ 0 ∷ 0 ∷ 0
    ∷ bool_kind ∷ 0 ∷ 0 ∷ 0 ∷ 1
    ∷ u16_kind ∷ 0 ∷ 0 ∷ 0 ∷ 1
    ∷ i16_kind ∷ 0 ∷ 0 ∷ 0 ∷ 1
    ∷ pointer_kind ∷ 4 ∷ 0 ∷ 0 ∷ 1
    ∷ distinct_kind ∷ 6 ∷ 0 ∷ string_name ∷ 1
    ∷ []

-- w with them at its front
abbrev pub with_fixed : List ℕ → List ℕ
with_fixed w = fixed_words ++ drop fixed_length w

-- w begins with them
abbrev pub FixedRows : List ℕ → Type 0
FixedRows w = (i : ℕ) → i < fixed_length → get_or w i 0 ≡ get_or fixed_words i 0

-- The fifth word of each of the rows 1 to m is its size
abbrev pub Sizes : List ℕ → (m : ℕ) → Type 0
Sizes w m = (n : ℕ) → 1 ≤ n → n ≤ m → size_word_at w n ≡ size_word (unfolded w n)

-- Rows of two tables that unfold to the same have the same fifth word
abbrev pub SameSizes : (w w' : List ℕ) (count count' : ℕ) → Type 0
SameSizes w w' count count' =
    (m n : ℕ) → 1 ≤ m → m ≤ count → 1 ≤ n → n ≤ count' → unfolded w m ≡ unfolded w' n → size_word_at w m ≡ size_word_at w' n

-- The first `count` rows of w obey the rules; the count is a u32
pub record Table (w : List ℕ) (count : ℕ) : Type 0 where
  pub room : row_width * count ≤ length w
  pub small : count < 2 ^ 32
  pub seven : fixed_count ≤ count
  pub fixed : FixedRows w
  pub rows : (m : ℕ) → m < count → RowOk w m (row_at w (m + 1))
  pub distinct : Distinct w count
  pub sizes : Sizes w count

-- w' has the first `count` rows of w, and past its own rows the words of w
pub record Extends (w : List ℕ) (count : ℕ) (w' : List ℕ) (count' : ℕ) : Type 0 where
  pub more : count ≤ count'
  pub long : length w' ≡ length w
  pub kept : (i : ℕ) → i < row_width * count → get_or w' i 0 ≡ get_or w i 0
  pub past : (i : ℕ) → row_width * count' ≤ i → get_or w' i 0 ≡ get_or w i 0
