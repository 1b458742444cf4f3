-- The records of a module in byte order, and their slots.
use Rattle.std.specs.Prelude.{ℕ, ◌≤◌, ◌<◌, ◌≡◌, ◌&&◌, List, leb, length}
use Rattle.shape.specs.Shape.{pick}
use Rattle.record_bytes.specs.Bytes.{head_end, field_end}
use Rattle.layout.specs.Layout.{kind_at, start_at, stop_at, is_whole}
use Rattle.trees.specs.Record.{has_slot, holds_free_bytes}

-- Where the slot of the record at `at` stands: after its head, if there is room for a field and its kind has a slot; else the end of the bytes
abbrev pub slot_place_at : List ℕ → (at : ℕ) → ℕ
slot_place_at s at = pick (leb (field_end at) (length s) && has_slot (kind_at s at)) (head_end at) (length s)

-- Where the record after the one at `at` starts in byte order: after its free bytes, or else after its fields; the end of the bytes if it is not whole
abbrev pub next_record_at : List ℕ → (at : ℕ) → ℕ
next_record_at s at = pick (is_whole s at (length s)) (pick (holds_free_bytes (kind_at s at)) (stop_at s at) (start_at s at)) (length s)

-- `r` is the place of the slot of the record at `at`, and no further than the end
pub record SlotPlace (s : List ℕ) (at r : ℕ) : Type 0 where
  pub is : r ≡ slot_place_at s at
  pub inside : r ≤ length s

-- `r` is where the record after the one at `at` starts, behind it and no further than the end
pub record NextRecord (s : List ℕ) (at r : ℕ) : Type 0 where
  pub is : r ≡ next_record_at s at
  pub behind : at < r
  pub inside : r ≤ length s
