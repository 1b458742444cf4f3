-- What the entry over records promises: `Checked` of the words that the records lent stand for, and the records filled from those words.
use Rattle.std.specs.Prelude.{ℕ, ◌*◌, ◌≤◌, ◌<◌, ◌≡◌, cond, List, ◌++◌, leb, length, take, drop, replicate}
use Rattle.fallible.specs.Outcome.{Outcome, refused, accepted, outcome_after}
use Rattle.fallible.specs.Errors.{error_width, errors_from}
use Rattle.fallible.specs.declared.Error.{Error}
use Rattle.meaning.specs.Promise.{Counts, Buffers, Checked}
use Rattle.module_tests.specs.Refusal.{module_refusal}

-- The buffers, with the words of so many records and no more.
abbrev pub words_for : (records : ℕ) → Buffers → Buffers
words_for records b = record { output = b.output; rows = b.rows; errors = take (error_width * records) b.errors; work = b.work }

-- Too few words: tests 1 to 4, then 5.
abbrev pub too_few_words : (input : List ℕ) → Outcome Counts
too_few_words input = outcome_after (module_refusal input) (refused 5 0)

-- What is promised of the words, eight for each record lent. Where there are fewer, all is left as it was.
pub record CheckedWords (input : List ℕ) (records : ℕ) (before after : Buffers) (answer : Outcome Counts) : Type 0 where
  pub short : length before.errors < error_width * records → (answer ≡ too_few_words input) × (after ≡ before)
  pub checked : error_width * records ≤ length before.errors → Checked input (words_for records before) (words_for records after) answer
  pub past : drop (error_width * records) after.errors ≡ drop (error_width * records) before.errors

-- The first records are the errors that stand in the words, and those past them are as they were.
abbrev pub records_from : (words : List ℕ) → (count : ℕ) → (records : List Error) → List Error
records_from words count records = errors_from words 0 count ++ drop count records

-- A record of which every field is 0.
abbrev pub zero_record : Error
zero_record = record { kind = 0; file = 0; line = 0; column = 0; first = 0; second = 0; third = 0; place = 0 }

-- How many of the records lent are filled: the errors; turned back with 1 to 5 none, with 6 or 7 all.
abbrev pub record_count : (answer : Outcome Counts) → (lent : ℕ) → ℕ
record_count (accepted counts) lent = counts.errors
record_count (refused number place) lent = cond (leb number 5) 0 lent

-- The records after the call: the errors, those past them as they were; turned back with 1 to 5 all as they were, with 6 or 7 all 0.
abbrev pub records_after : (answer : Outcome Counts) → (words : List ℕ) → (records : List Error) → List Error
records_after (accepted counts) words records = records_from words counts.errors records
records_after (refused number place) words records = cond (leb number 5) records (replicate (length records) zero_record)

-- "A thin entry over a slice of error structs, filled [..] from the covered one": 7 means more errors than records lent.
pub record CheckedRecords (input : List ℕ) (before after : Buffers) (records records' : List Error) (answer : Outcome Counts) : Type 0 where
  pub words : CheckedWords input (length records) before after answer
  pub filled : records' ≡ records_after answer (words_for (length records) after).errors records
