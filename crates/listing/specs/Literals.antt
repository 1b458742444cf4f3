-- Where the integer literals of a module stand, and their digits.
use Rattle.std.specs.Prelude.{ℕ, ◌+◌, ◌-◌, ◌*◌, ◌≤◌, ◌<◌, ◌≡◌, cond, List, [], ◌∷◌, ◌++◌, ◌⊎◌, eqb, length, get_or, take, drop, set}
use Rattle.shape.specs.Kinds as kinds
use Rattle.record_bytes.specs.Bytes.{word_at, head_size, field_size, fields_end}
use Rattle.trees.specs.Record.{Records, no_records, record_then, records_at, field_count, holds_free_bytes}
use Rattle.layout.specs.Layout.{max_depth, kind_at, start_at, stop_at}

-- The places of the integer literals among some records, at any depth, in byte order
unfoldable pub literals_in : Records → List ℕ
literals_in no_records = []
literals_in (record_then h s children rest) = cond (eqb h.kind kinds.integer) (h.location.at ∷ []) [] ++ literals_in children ++ literals_in rest

-- Those of a module, from the start of the file
unfoldable pub literal_places : (s : List ℕ) → List ℕ
literal_places s = literals_in (records_at s max_depth 0 (length s))

-- A number is one of a list
unfoldable pub Among : ℕ → List ℕ → Type 0
Among n [] = ⊥
Among n (x ∷ l) = (n ≡ x) ⊎ Among n l

-- A literal stands at a place
abbrev pub IsLiteral : (s : List ℕ) → (place : ℕ) → Type 0
IsLiteral s place = Among place (literal_places s)

-- Its digits: the bytes behind its two fields, the slot and the base
unfoldable pub literal_text : (s : List ℕ) → (place : ℕ) → List ℕ
literal_text s place = take (stop_at s place - fields_end place) (drop (fields_end place) s)

-- A literal's record is whole
pub record LiteralStands (s : List ℕ) (place : ℕ) : Type 0 where
  pub head : head_size ≤ word_at s place
  pub whole : stop_at s place ≤ length s

-- Of the bytes of `marks`, one for each byte of the module, those are 1 where a literal stands
pub record Marked (s marks : List ℕ) : Type 0 where
  pub room : length s ≤ length marks
  pub is : (place : ℕ) → place < length s → get_or marks place 0 ≡ 1 → IsLiteral s place
  pub all : (place : ℕ) → IsLiteral s place → (place < length s) × (get_or marks place 0 ≡ 1)

-- A 1 at each of some places
unfoldable pub mark_all : (places : List ℕ) → (marks : List ℕ) → List ℕ
mark_all [] marks = marks
mark_all (place ∷ places) marks = mark_all places (set marks place 1)

-- A 1 at the place of a record, if it is a literal
abbrev pub marked_here : (s : List ℕ) → (at : ℕ) → (marks : List ℕ) → List ℕ
marked_here s at marks = cond (eqb (kind_at s at) kinds.integer) (set marks at 1) marks

-- How many bytes stand before the children in a record of a kind; free bytes are no children
abbrev pub bytes_before : (kind : ℕ) → ℕ
bytes_before kind = cond (holds_free_bytes kind) 0 (head_size + field_size * field_count kind)

-- Where the children of a record that ends at `stop` start; free bytes are none
abbrev pub children_start : (s : List ℕ) → (at stop : ℕ) → ℕ
children_start s at stop = cond (holds_free_bytes (kind_at s at)) stop (start_at s at)
