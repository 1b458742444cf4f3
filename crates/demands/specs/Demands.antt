-- The request's three demands, each over whole runs of the entry: what a call was given, left and answered (`Run`). Types are compared unfolded.
use Rattle.std.specs.Prelude.{ℕ, ◌+◌, ◌*◌, ◌≤◌, ◌<◌, ◌≡◌, true, List, ◌⊎◌, length}
use Rattle.std.proofs.Math.Option.{some}
use Rattle.std.specs.Borrow.{MutBor}
use denote.Triple.Both.{Both}
use Rattle.types.specs.Table.{row_width, unfolded}
use Rattle.fallible.specs.Outcome.{Outcome, refused, accepted, first_refusing}
use Rattle.fallible.specs.Errors.{error_width}
use Rattle.record_bytes.specs.Bytes.{byte_at}
use Rattle.layout.specs.Layout.{Good, layout_of}
use Rattle.names.specs.Names.{names_of, repeated_name}
use Rattle.trees.specs.Record.{item_tree, item_slot_places}
use Rattle.std.specs.Prelude.{None}
use Rattle.meaning.specs.Module.{item_types}
use Rattle.meaning.specs.Promise.{work_width, Counts, counts_of, Buffers, Lengths, lengths_of, tests, wiped, Accepted}
use Rattle.meaning.specs.Promise.{context_of, placed_errors_of, error_list_of, item_count, item_place, item_at, output_at, in_slot, slot_types}
use Rattle.meaning.specs.JoiningOrder.{Run, AnotherOrder, Supposed, SameOutcome}
use Rattle.type_check.specs.Post.{buffers_before, buffers_after}

-- Demand 1. "A module file that meets the layout, repeats no name in its list and fits the buffers lent"
pub record Fits (input : List ℕ) (lent : Lengths) : Type 0 where
  pub layout : layout_of input ≡ Good
  pub names : repeated_name input ≡ None
  pub output : length input ≤ lent.output
  pub work : work_width * length (names_of input) ≤ lent.work
  pub rows : row_width * (counts_of input).rows ≤ lent.rows
  pub errors : error_width * (counts_of input).errors ≤ lent.errors

-- A byte of the file lies in a type slot of one of its items, `at` bytes behind the item's first
pub record SlotByte (input : List ℕ) (i : ℕ) : Type 0 where
  pub item : ℕ
  pub at : ℕ
  pub among : item < item_count input
  pub place : i ≡ item_place input item + at
  pub slot : in_slot (item_slot_places (item_at input item)) at ≡ true

-- "is checked to its end and comes back whole, each type slot filled, with its errors and counts"; "no other byte of the file differs in the
-- output"; the types are "equal exactly when the numbers are"
pub record Whole (run : Run) : Type 0 where
  pub answer : run.answer ≡ accepted (counts_of run.input)
  pub back : Accepted run.input run.before run.after (counts_of run.input)
  pub others : (i : ℕ) → i < length run.input → SlotByte run.input i ⊎ (byte_at run.after.output i ≡ byte_at run.input i)
  pub equal : (m n : ℕ) → m ≤ (counts_of run.input).rows → n ≤ (counts_of run.input).rows
      → (unfolded run.after.rows m ≡ unfolded run.after.rows n → m ≡ n) × (m ≡ n → unfolded run.after.rows m ≡ unfolded run.after.rows n)

-- "Every other input gets the number in document 01's table and leaves each buffer as that table says"
pub record TurnedBack (run : Run) : Type 0 where
  pub number : ℕ
  pub place : ℕ
  pub answer : run.answer ≡ refused number place
  pub table : first_refusing (tests run.input (lengths_of run.before)) ≡ some (number, place)
  pub left : number ≤ 5 → run.after ≡ run.before
  pub zeroed : 6 ≤ number → run.after ≡ wiped run.input run.before

pub record Demand1 (run : Run) : Type 0 where
  pub whole : Fits run.input (lengths_of run.before) → Whole run
  pub otherwise : (Fits run.input (lengths_of run.before) → ⊥) → TurnedBack run

-- Demand 2. "Literals follow the standard library's page for u16::from_str_radix, all else 01's typing rules": the errors in their order, and the
-- type of each slot, are those of the typing rules (`placed_errors_of`, `item_types`; literals by `from_str_radix`)
pub record Demand2 (run : Run) (counts : Counts) : Type 0 where
  pub errors : error_list_of run.after.rows run.after.errors counts.errors ≡ placed_errors_of run.input
  pub types : (i : ℕ) → i < item_count run.input
      → slot_types run.after.rows (output_at run.input run.after.output i) (item_slot_places (item_at run.input i))
      ≡ item_types (context_of run.input) (item_tree (item_at run.input i))

-- Demand 3. Two runs, "over any module, and over the same names list with the same items in any other order, with every other buffer of equal
-- length in both", under the request's suppositions
pub record TwoOrders (c d : Run) : Type 0 where
  pub order : AnotherOrder c.input d.input
  pub lengths : lengths_of c.before ≡ lengths_of d.before
  pub first : Supposed c.input
  pub second : Supposed d.input

abbrev pub Demand3 : (c d : Run) → Type 0
Demand3 c d = TwoOrders c d → SameOutcome c d c.answer d.answer

-- A run of the entry
abbrev pub run : (input : List ℕ) → (before after : Buffers) → Outcome Counts → Run
run input before after answer = record { input = input; before = before; after = after; answer = answer }

-- as a contract names it
abbrev pub run_of : (input : List ℕ) (output rows errors work : Both (MutBor (List ℕ)) (MutBor (List ℕ))) → Outcome Counts → Run
run_of input output rows errors work = run input (buffers_before output rows errors work) (buffers_after output rows errors work)

-- Demands 1 and 2 of one run
pub record DemandsOfOne (run : Run) : Type 0 where
  pub first : Demand1 run
  pub second : (counts : Counts) → run.answer ≡ accepted counts → Demand2 run counts

-- Demands 1 and 2 of each run, demand 3 of both
pub record Demands (c d : Run) : Type 0 where
  pub one : DemandsOfOne c
  pub other : DemandsOfOne d
  pub third : Demand3 c d
