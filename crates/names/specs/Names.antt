-- Document 01, "Module file": the names and the items of a module, by number. Everything is defined on any bytes: a chain of records
-- stops where no whole record stands.
use Rattle.std.specs.Prelude.{ℕ, zero, suc, ◌+◌, ◌-◌, ◌≤◌, ◌<◌, ◌^◌, min, ◌≡◌, Bool, true, false, ◌&&◌, ◌||◌, List, [], ◌∷◌, ◌++◌, map, length, take, drop, leb, eqb, Some, None}
use Rattle.std.specs.Prelude as prelude
use Rattle.std.proofs.Math.Option.{Option, none, some}
use Rattle.shape.specs.Shape.{pick}
use Rattle.record_bytes.specs.Bytes.{word_at, head_size, head_end}
use Rattle.names.specs.declared.BuiltIns.{BuiltIns}

-- a record stands at `at`, whole, in a part that ends at `end`
unfoldable pub stands : List ℕ → (at end : ℕ) → Bool
stands s at end = leb (head_end at) end && leb head_size (word_at s at) && leb (at + word_at s at) end

-- the places of the records that follow each other from `at` to `end`; the first number bounds how many
unfoldable pub chain : (fuel : ℕ) → List ℕ → (at end : ℕ) → List ℕ
chain zero s at end = []
chain (suc n) s at end = pick (stands s at end) (at ∷ chain n s (at + word_at s at) end) []

-- the record of the names follows the module's head
unfoldable pub names_end : List ℕ → ℕ
names_end s = min (head_size + word_at s head_size) (length s)

-- the places of the name records, by number
unfoldable pub name_places : List ℕ → List ℕ
name_places s = chain (length s) s 32 (names_end s)

-- a name record's bytes, without its head
unfoldable pub name_bytes : List ℕ → (place : ℕ) → List ℕ
name_bytes s at = take (word_at s at - head_size) (drop (head_end at) s)

-- the names, by number
unfoldable pub names_of : List ℕ → List (List ℕ)
names_of s = map (name_bytes s) (name_places s)

unfoldable pub name_count : List ℕ → ℕ
name_count s = length (name_places s)

-- two texts are the same
unfoldable pub same_bytes : List ℕ → List ℕ → Bool
same_bytes [] [] = true
same_bytes [] (y ∷ b) = false
same_bytes (x ∷ a) [] = false
same_bytes (x ∷ a) (y ∷ b) = eqb x y && same_bytes a b

-- a text is one of some names
unfoldable pub is_among : List ℕ → List (List ℕ) → Bool
is_among t [] = false
is_among t (n ∷ ns) = same_bytes n t || is_among t ns

-- the number of the first name with a text, or the number of names
unfoldable pub index_of : List ℕ → List (List ℕ) → ℕ
index_of t [] = 0
index_of t (n ∷ ns) = pick (same_bytes n t) 0 (1 + index_of t ns)

unfoldable pub number_of : List ℕ → (text : List ℕ) → ℕ
number_of s t = index_of t (names_of s)

-- u16, i16, bool, String
unfoldable pub built_ins : List ℕ → BuiltIns
built_ins s =
    record {
      u16 = number_of s (117 ∷ 49 ∷ 54 ∷ []);
      i16 = number_of s (105 ∷ 49 ∷ 54 ∷ []);
      bool = number_of s (98 ∷ 111 ∷ 111 ∷ 108 ∷ []);
      string = number_of s (83 ∷ 116 ∷ 114 ∷ 105 ∷ 110 ∷ 103 ∷ []);
    }

-- "a name equal to an earlier one": the place of the first, if there is one
abbrev pub Repeated : Type 0
Repeated = prelude.Option ℕ

unfoldable pub repeat_in : List ℕ → (earlier : List (List ℕ)) → (places : List ℕ) → Repeated
repeat_in s ns [] = None
repeat_in s ns (p ∷ ps) = pick (is_among (name_bytes s p) ns) (Some p) (repeat_in s (ns ++ (name_bytes s p ∷ [])) ps)

unfoldable pub repeated_name : List ℕ → Repeated
repeated_name s = repeat_in s [] (name_places s)

-- the number and the place of each case
unfoldable pub name_refusal : Repeated → Option (ℕ × ℕ)
name_refusal None = none
name_refusal (Some p) = some (4, p)

-- test 4: the number and the place of the refusal, if there is one
abbrev pub name_test : List ℕ → Option (ℕ × ℕ)
name_test s = name_refusal (repeated_name s)

-- the places of the items, which follow the names, to the end of the module
unfoldable pub item_places : List ℕ → List ℕ
item_places s = chain (length s) s (names_end s) (min (word_at s 0) (length s))

-- an item's own record
unfoldable pub item_bytes : List ℕ → (place : ℕ) → List ℕ
item_bytes s at = take (word_at s at) (drop at s)

unfoldable pub items_of : List ℕ → List (List ℕ)
items_of s = map (item_bytes s) (item_places s)

-- a whole record stands at `at`, and `next` is the place after it
pub record Next (s : List ℕ) (at end next : ℕ) : Type 0 where
  pub whole : stands s at end ≡ true
  pub is : next ≡ at + word_at s at
  pub head : head_end at ≤ next
  pub inside : next ≤ end

-- `r` is the place after the record at `at`, or none if no whole one stands there
abbrev pub Following : (s : List ℕ) (at end : ℕ) (r : prelude.Option ℕ) → Type 0
Following s at end None = stands s at end ≡ false
Following s at end (Some next) = Next s at end next

-- `r` is where the record of the names ends
pub record NamesEnd (s : List ℕ) (r : ℕ) : Type 0 where
  pub is : r ≡ names_end s
  pub inside : r ≤ length s
  pub small : r < head_size + 2 ^ 32
