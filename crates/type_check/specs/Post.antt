-- What the functions of the entry promise; the entry's own promise is `Checked` (crate meaning).
use Rattle.std.specs.Prelude.{ℕ, ◌*◌, ◌≤◌, ◌≡◌, false, ◌||◌, List, [], ◌∷◌, Result, Ok, Err, ltb, length, drop}
use Rattle.std.proofs.Math.Option.{Option}
use Rattle.std.specs.Borrow.{MutBor}
use denote.Triple.Both.{Both}
use Rattle.contract.specs.Moments.{old, final}
use Rattle.types.specs.Table.{row_width}
use Rattle.fallible.specs.Outcome.{Outcome, refused, accepted, or_next, first_refusing, outcome_after}
use Rattle.fallible.specs.Errors.{error_width, room}
use Rattle.names.specs.Names.{names_of, name_count, repeated_name}
use Rattle.layout.specs.Layout.{Good, layout_of}
use Rattle.std.specs.Prelude.{None}
use Rattle.module_tests.specs.Refusal.{module_refusal}
use Rattle.meaning.specs.Promise.{work_width, Counts, counts_of, Buffers, Lengths, lengths_of, refuse_if}
use Rattle.meaning.specs.Promise.{cleared, wiped, Accepted}
use Rattle.walk.specs.declared.State.{State}
use Rattle.refusal.specs.declared.Refusal.{Refusal}
use Rattle.refusal.specs.Refusal.{number_of, place_of}
use Rattle.type_check.specs.declared.Counts.{Counts as Counted}

-- The four buffers that the entry is lent
abbrev pub buffers : (output rows errors work : List ℕ) → Buffers
buffers output rows errors work = record { output = output; rows = rows; errors = errors; work = work }

-- in an `ensures`, at entry
abbrev pub buffers_before : (output rows errors work : Both (MutBor (List ℕ)) (MutBor (List ℕ))) → Buffers
buffers_before output rows errors work = buffers (old output) (old rows) (old errors) (old work)

-- and at exit
abbrev pub buffers_after : (output rows errors work : Both (MutBor (List ℕ)) (MutBor (List ℕ))) → Buffers
buffers_after output rows errors work = buffers (final output) (final rows) (final errors) (final work)

-- The number of the refusal and its place, or the counts, of each case of the answer
abbrev pub outcome_of : Result Counted Refusal → Outcome Counts
outcome_of (Ok counts) = accepted (record { rows = counts.rows; errors = counts.errors })
outcome_of (Err cause) = refused (number_of cause) (place_of cause)

-- Test 5
abbrev pub loan_refusal : (input : List ℕ) → (output work : ℕ) → Option (ℕ × ℕ)
loan_refusal input output work = refuse_if (ltb output (length input) || ltb work (work_width * length (names_of input))) 5

-- Tests 1 to 5, which are made before anything is written
abbrev pub early_refusal : (input : List ℕ) → (output work : ℕ) → Option (ℕ × ℕ)
early_refusal input output work = or_next (module_refusal input) (loan_refusal input output work)

-- They are passed, with an output and working words of these lengths
pub record Passed (input : List ℕ) (output work : ℕ) : Type 0 where
  pub layout : layout_of input ≡ Good
  pub names : repeated_name input ≡ None
  pub long : length input ≤ output
  pub wide : work_width * name_count input ≤ work

-- The output after both passes, and the rows and the errors, are as the promise has them for these counts, whatever the working words are
pub record Results (input : List ℕ) (before after : Buffers) (counts : Counts) : Type 0 where
  pub results : (work work' : List ℕ) → work' ≡ cleared (work_width * length (names_of input)) work
      → Accepted input (record { output = before.output; rows = before.rows; errors = before.errors; work = work })
      (record { output = after.output; rows = after.rows; errors = after.errors; work = work' }) counts

-- Both passes over an output that begins as a copy of the input: the state says whether the rows found room, and the errors, and counts them
pub record BothPasses (input : List ℕ) (before after : Buffers) (r : State) : Type 0 where
  pub lengths : lengths_of after ≡ lengths_of before
  pub past : drop (length input) after.output ≡ drop (length input) before.output
  pub full : ltb (length before.rows) (row_width * (counts_of input).rows) ≡ r.full
  pub crowded : r.full ≡ false → ltb (length before.errors) (error_width * (counts_of input).errors) ≡ ltb (room before.errors) r.errors
  pub done : r.full ≡ false → ltb (room before.errors) r.errors ≡ false
      → (record { rows = r.rows; errors = r.errors } ≡ counts_of input) × Results input before after (counts_of input)

-- Tests 6 and 7
abbrev pub late_outcome : (input : List ℕ) → Lengths → Outcome Counts
late_outcome input lent =
    outcome_after
    (first_refusing (refuse_if (ltb lent.rows (row_width * (counts_of input).rows)) 6 ∷ refuse_if (ltb lent.errors (error_width * (counts_of input).errors)) 7 ∷ []))
    (accepted (counts_of input))

-- What the check promises once tests 1 to 5 are passed, with working words for the names alone
pub record Ends (input : List ℕ) (before after : Buffers) (answer : Outcome Counts) : Type 0 where
  pub answers : answer ≡ late_outcome input (lengths_of before)
  pub lengths : lengths_of after ≡ lengths_of before
  pub late : (number place : ℕ) → answer ≡ refused number place → 6 ≤ number
  pub emptied : (number place : ℕ) → answer ≡ refused number place → after ≡ wiped input before
  pub filled : (counts : Counts) → answer ≡ accepted counts → Accepted input before after counts
