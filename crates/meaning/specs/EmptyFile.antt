-- Document 02, paper 12: a file of no bytes means the module without names and items. It is no layout fault (`layout_of`, crate layout), and has
-- neither names nor items by their definitions; what follows from that for a run is said here.
use Rattle.std.specs.Prelude.{ℕ, ◌≤◌, ◌<◌, ◌≡◌, List, [], length, replicate}
use Rattle.types.specs.Table.{fixed_count, fixed_length, with_fixed}
use Rattle.fallible.specs.Outcome.{Outcome, refused, accepted}
use Rattle.record_bytes.specs.Bytes.{head_size}
use Rattle.names.specs.Names.{names_of, items_of}
use Rattle.meaning.specs.Promise.{Counts, Buffers, Checked}

-- Seven rows and no errors
abbrev pub seven_rows : Counts
seven_rows = record { rows = fixed_count; errors = 0 }

-- The fixed rows stand before the other row words; nothing else is touched
abbrev pub with_fixed_rows : Buffers → Buffers
with_fixed_rows before =
    record { output = before.output; rows = with_fixed before.rows; errors = before.errors; work = before.work }

-- Every row word and every error word is 0; nothing else is touched
abbrev pub with_zeros : Buffers → Buffers
with_zeros before =
    record {
      output = before.output;
      rows = replicate (length before.rows) 0;
      errors = replicate (length before.errors) 0;
      work = before.work;
    }

-- A run over the file of no bytes, whatever is lent: accepted exactly if seven whole rows are lent, else refused with 6
pub record EmptyFile : Type 0 where
  pub names : names_of [] ≡ []
  pub items : items_of [] ≡ []
  pub enough : (before after : Buffers) (answer : Outcome Counts) → Checked [] before after answer → fixed_length ≤ length before.rows
      → (answer ≡ accepted seven_rows) × (after ≡ with_fixed_rows before)
  pub few : (before after : Buffers) (answer : Outcome Counts) → Checked [] before after answer → length before.rows < fixed_length
      → (answer ≡ refused 6 0) × (after ≡ with_zeros before)

-- A file of 1 to 15 bytes is still a layout fault at place 0
abbrev pub ShortFile : Type 0
ShortFile =
    (input : List ℕ) (before after : Buffers) (answer : Outcome Counts) → Checked input before after answer → 1 ≤ length input → length input < head_size
    → (answer ≡ refused 2 0) × (after ≡ before)
