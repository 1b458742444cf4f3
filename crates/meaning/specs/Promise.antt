-- What `type_check_module` promises: its answer, and every word of every buffer lent, before to after. Only the numbering of the rows is free.
use Rattle.std.specs.Prelude.{ℕ, ◌+◌, ◌*◌, ◌≤◌, ◌<◌, ◌≡◌, Bool, true, false, cond, ◌&&◌, ◌||◌, leb, ltb, length, get_or, take, drop, replicate}
use mathlib.Core.List.{List, [], ◌∷◌, ◌++◌, map, Mem}
use Rattle.std.proofs.Math.Option.{Option, none, some}
use Rattle.types.specs.Ty.{Ty, u16, i16, bool, string, member, distinct_count}
use Rattle.types.specs.Table.{row_width, unfolded, has_type, Table, IsType}
use Rattle.fallible.specs.Outcome.{Outcome, refused, accepted, first_refusing, outcome_after}
use Rattle.fallible.specs.Operands.{is_type_operand}
use Rattle.fallible.specs.Errors.{error_width, error_at, errors_from}
use Rattle.fallible.specs.declared.Error.{Error}
use Rattle.record_bytes.specs.Bytes.{byte_at, word_at}
use Rattle.layout.specs.Layout.{layout_of, layout_refusal}
use Rattle.names.specs.Names.{same_bytes, names_of, repeated_name, name_refusal, names_end, item_places, item_bytes, items_of}
use Rattle.trees.specs.Record.{item_tree, item_slot_places}
use Rattle.trees.specs.Tree.{Item}
use Rattle.meaning.specs.TypeError.{TypeError, Operand, plain, row, move_place}
use Rattle.meaning.specs.Context.{TypeMap, each, ModuleContext}
use Rattle.meaning.specs.Module.{empty_context, declarations, module_context, errors_in1, module_errors, needed_types, item_errors, item_types}
use Rattle.meaning.specs.ItemStart.{place_in_item}

-- Four working words a name
abbrev pub work_width : ℕ
work_width = 4

-- `get_primitive_type`: u16, i16, bool and String, by the bytes of a name
abbrev pub primitive_type : (name : List ℕ) → Option Ty
primitive_type name =
    cond (same_bytes name (117 ∷ 49 ∷ 54 ∷ [])) (some u16)
    (cond (same_bytes name (105 ∷ 49 ∷ 54 ∷ [])) (some i16)
    (cond (same_bytes name (98 ∷ 111 ∷ 111 ∷ 108 ∷ [])) (some bool)
    (cond (same_bytes name (83 ∷ 116 ∷ 114 ∷ 105 ∷ 110 ∷ 103 ∷ [])) (some string) none)))

unfoldable pub built_in_types : (names : List (List ℕ)) → TypeMap
built_in_types names name = primitive_type (get_or names name [])

-- The items of a module, and what they mean
abbrev pub trees_of : (input : List ℕ) → List Item
trees_of input = map item_tree (items_of input)

abbrev pub built_ins_of : (input : List ℕ) → TypeMap
built_ins_of input = built_in_types (names_of input)

abbrev pub context_of : (input : List ℕ) → ModuleContext
context_of input = module_context (built_ins_of input) (trees_of input)

unfoldable pub errors_of : (input : List ℕ) → List TypeError
errors_of input = module_errors (built_ins_of input) (trees_of input)

unfoldable pub types_of : (input : List ℕ) → List Ty
types_of input = needed_types (built_ins_of input) (trees_of input)

-- The counts that an accepted module answers
pub record Counts : Type 0 where
  pub rows : ℕ
  pub errors : ℕ

abbrev pub counts_of : (input : List ℕ) → Counts
counts_of input = record { rows = distinct_count (types_of input); errors = length (errors_of input) }

-- The buffers lent
pub record Buffers : Type 0 where
  pub output : List ℕ
  pub rows : List ℕ
  pub errors : List ℕ
  pub work : List ℕ

-- Their lengths
pub record Lengths : Type 0 where
  pub output : ℕ
  pub rows : ℕ
  pub errors : ℕ
  pub work : ℕ

abbrev pub lengths_of : Buffers → Lengths
lengths_of b = record { output = length b.output; rows = length b.rows; errors = length b.errors; work = length b.work }

-- Why a module is turned back: the tests in their order, each with its number and its place if it refuses
abbrev pub refuse_if : Bool → (number : ℕ) → Option (ℕ × ℕ)
refuse_if b number = cond b (some (number, 0)) none

abbrev pub tests : (input : List ℕ) → Lengths → List (Option (ℕ × ℕ))
tests input lent =
    layout_refusal (layout_of input)
    ∷ name_refusal (repeated_name input)
    ∷ refuse_if (ltb lent.output (length input) || ltb lent.work (work_width * length (names_of input))) 5
    ∷ refuse_if (ltb lent.rows (row_width * (counts_of input).rows)) 6
    ∷ refuse_if (ltb lent.errors (error_width * (counts_of input).errors)) 7
    ∷ []

-- The first test that refuses decides; else the counts are the answer
unfoldable pub answer_of : (input : List ℕ) → Lengths → Outcome Counts
answer_of input lent = outcome_after (first_refusing (tests input lent)) (accepted (counts_of input))

-- The first n are 0, the rest is as it was
abbrev pub cleared : (n : ℕ) → List ℕ → List ℕ
cleared n l = replicate n 0 ++ drop n l

abbrev pub work_after : (input work : List ℕ) → List ℕ
work_after input work = cleared (work_width * length (names_of input)) work

-- Refused with 6 or 7
abbrev pub wiped : (input : List ℕ) → Buffers → Buffers
wiped input before =
    record {
      output = cleared (length input) before.output;
      rows = cleared (length before.rows) before.rows;
      errors = cleared (length before.errors) before.errors;
      work = work_after input before.work;
    }

-- The error list, operands that are row numbers unfolded
abbrev pub operand_of : (rows : List ℕ) → (kind place word : ℕ) → Operand
operand_of rows kind place word = cond (is_type_operand kind place) (row (unfolded rows word)) (plain word)

abbrev pub unfold_error : (rows : List ℕ) → Error → TypeError
unfold_error rows e =
    record {
      kind = e.kind;
      file = e.file;
      line = e.line;
      column = e.column;
      first = operand_of rows e.kind 0 e.first;
      second = operand_of rows e.kind 1 e.second;
      third = operand_of rows e.kind 2 e.third;
      place = e.place;
    }

abbrev pub error_list_of : (rows errors : List ℕ) → (count : ℕ) → List TypeError
error_list_of rows errors count = map (unfold_error rows) (errors_from errors 0 count)

-- The errors with their places in the file: those of pass 1, which have none, then those of each item, whose tree counts from the item's start
abbrev pub placed_item_errors : (input : List ℕ) → (at : ℕ) → List TypeError
placed_item_errors input at = map (move_place (λ p. at + p)) (item_errors (context_of input) (item_tree (item_bytes input at)))

unfoldable pub placed_errors_of : (input : List ℕ) → List TypeError
placed_errors_of input = each errors_in1 (declarations (empty_context (built_ins_of input)) (trees_of input)) ++ each (placed_item_errors input) (item_places input)

-- "that place is counted from the start of its item"
abbrev pub from_item : (input : List ℕ) → TypeError → TypeError
from_item input e = move_place (place_in_item input) e

-- The operands that are row numbers are type rows of the table
pub record OperandsExist (rows : List ℕ) (count : ℕ) (e : Error) : Type 0 where
  pub first : is_type_operand e.kind 0 ≡ true → IsType rows count e.first
  pub second : is_type_operand e.kind 1 ≡ true → IsType rows count e.second
  pub third : is_type_operand e.kind 2 ≡ true → IsType rows count e.third

-- A byte's place lies in a slot
unfoldable pub in_slot : (places : List ℕ) → (i : ℕ) → Bool
in_slot [] i = false
in_slot (p ∷ places) i = leb p i && ltb i (p + 4) || in_slot places i

-- The rows in the slots of an item's output, unfolded
abbrev pub slot_types : (rows output places : List ℕ) → List Ty
slot_types rows output places = map (λ p. unfolded rows (word_at output p)) places

-- An item's output, by the item's own bytes: each slot holds a type row that unfolds to its type, and no other byte differs
pub record ItemFilled (rows : List ℕ) (count : ℕ) (types : List Ty) (bytes output : List ℕ) : Type 0 where
  pub long : length output ≡ length bytes
  pub slots : slot_types rows output (item_slot_places bytes) ≡ types
  pub exist : (p : ℕ) → Mem p (item_slot_places bytes) → IsType rows count (word_at output p)
  pub others : (i : ℕ) → in_slot (item_slot_places bytes) i ≡ false → byte_at output i ≡ byte_at bytes i

-- Item i of a module: its place, its own bytes, and the same part of the output
abbrev pub item_place : (input : List ℕ) → (i : ℕ) → ℕ
item_place input i = get_or (item_places input) i 0

abbrev pub item_at : (input : List ℕ) → (i : ℕ) → List ℕ
item_at input i = item_bytes input (item_place input i)

abbrev pub output_at : (input output : List ℕ) → (i : ℕ) → List ℕ
output_at input output i = take (length (item_at input i)) (drop (item_place input i) output)

abbrev pub item_count : (input : List ℕ) → ℕ
item_count input = length (item_places input)

-- Accepted, with these counts
pub record Accepted (input : List ℕ) (before after : Buffers) (counts : Counts) : Type 0 where
  pub table : Table after.rows counts.rows
  pub types : (t : Ty) → has_type after.rows counts.rows t ≡ member t (types_of input)
  pub errors : error_list_of after.rows after.errors counts.errors ≡ placed_errors_of input
  pub operands : (i : ℕ) → i < counts.errors → OperandsExist after.rows counts.rows (error_at after.errors i)
  pub names : take (names_end input) after.output ≡ take (names_end input) input
  pub items : (i : ℕ) → i < item_count input
      → ItemFilled after.rows counts.rows (item_types (context_of input) (item_tree (item_at input i))) (item_at input i) (output_at input after.output i)
  pub past_output : drop (length input) after.output ≡ drop (length input) before.output
  pub past_rows : drop (row_width * counts.rows) after.rows ≡ drop (row_width * counts.rows) before.rows
  pub past_errors : drop (error_width * counts.errors) after.errors ≡ drop (error_width * counts.errors) before.errors
  pub work : after.work ≡ work_after input before.work

-- The whole promise
pub record Checked (input : List ℕ) (before after : Buffers) (answer : Outcome Counts) : Type 0 where
  pub answers : answer ≡ answer_of input (lengths_of before)
  pub lengths : lengths_of after ≡ lengths_of before
  pub untouched : (number place : ℕ) → answer ≡ refused number place → number ≤ 5 → after ≡ before
  pub emptied : (number place : ℕ) → answer ≡ refused number place → 6 ≤ number → after ≡ wiped input before
  pub filled : (counts : Counts) → answer ≡ accepted counts → Accepted input before after counts
