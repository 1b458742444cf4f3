-- What the entries tell a caller in numbers (document 01, "Why a module is turned back").
use Rattle.std.specs.Prelude.{ℕ, ◌≡◌, Bool, cond, List}
use Rattle.fallible.specs.Outcome.{Outcome, refused, accepted}
use Rattle.meaning.specs.Promise.{Counts, Buffers, lengths_of, answer_of, Checked}
use Rattle.relations.specs.WordSize.{as_word}
use Rattle.relations.specs.declared.WordSize.{WordSize}
use Rattle.queries.specs.Entry.{Answers, Measures}
use Rattle.queries.specs.declared.CastSearch.{CastSearch}
use Rattle.error_messages.specs.Description.{Inputs}
use Rattle.error_messages.specs.Messages.{Loan, Answered}

-- The number of the refusal, or 0
abbrev pub refusal_number : {A : Type 0} → Outcome A → ℕ
refusal_number (refused number place) = number
refusal_number (accepted a) = 0

-- The place returned, or 0
abbrev pub refusal_place : {A : Type 0} → Outcome A → ℕ
refusal_place (refused number place) = place
refusal_place (accepted a) = 0

-- A value of an accepted call, or 0
abbrev pub value_of : {A : Type 0} → (A → ℕ) → Outcome A → ℕ
value_of value (refused number place) = 0
value_of value (accepted a) = value a

-- The four numbers that a caller is told of a module
pub record Reply : Type 0 where
  pub number : ℕ
  pub rows : ℕ
  pub errors : ℕ
  pub place : ℕ

abbrev pub reply : (number rows errors place : ℕ) → Reply
reply number rows errors place = record { number = number; rows = rows; errors = errors; place = place }

-- An answer of the check in numbers: the row and error counts, or the number and the place of the refusal
abbrev pub reply_of : Outcome Counts → Reply
reply_of o = reply (refusal_number o) (value_of (λ c. c.rows) o) (value_of (λ c. c.errors) o) (refusal_place o)

-- The whole promise of the check, and its answer in numbers
pub record ModuleTold (input : List ℕ) (before after : Buffers) (t : Reply) : Type 0 where
  pub checked : Checked input before after (answer_of input (lengths_of before))
  pub tells : t ≡ reply_of (answer_of input (lengths_of before))

-- The length of a text that is written
abbrev pub text_length : ℕ → ℕ
text_length length = length

-- The promise of messages holds of an outcome, which is told by its number, the length of the text and the place
pub record MessagesTold (x : Inputs) (errors : List ℕ) (many : ℕ) (before after : Loan) (number length place : ℕ) : Type 0 where
  pub outcome : Outcome ℕ
  pub answers : Answered x errors many before after outcome
  pub tells : (number ≡ refusal_number outcome) × (length ≡ value_of text_length outcome) × (place ≡ refusal_place outcome)

-- Yes is 1, no is 0
abbrev pub as_number : Bool → ℕ
as_number b = cond b 1 0

-- What the search of a cast finds, in numbers
abbrev pub fits_number : CastSearch → ℕ
fits_number found = as_number found.fits

abbrev pub pairs_number : CastSearch → ℕ
pairs_number found = found.pairs

-- The promise of assignable holds of an outcome, which is told by its number and its value
pub record AnswerTold (w : List ℕ) (count m n : ℕ) (value : Bool) (number answer : ℕ) : Type 0 where
  pub outcome : Outcome Bool
  pub answers : Answers w count m n value outcome
  pub tells : (number ≡ refusal_number outcome) × (answer ≡ value_of as_number outcome)

-- The promise of castable holds of an outcome, which is told by its number, its answer and the pairs that were tried
pub record CastTold (w : List ℕ) (count m n : ℕ) (value : CastSearch) (number answer pairs : ℕ) : Type 0 where
  pub outcome : Outcome CastSearch
  pub answers : Answers w count m n value outcome
  pub tells : (number ≡ refusal_number outcome) × (answer ≡ value_of fits_number outcome) × (pairs ≡ value_of pairs_number outcome)

-- The promise of words holds of an outcome, which is told by its number and its size as one word
pub record SizeTold (w : List ℕ) (count n number size : ℕ) : Type 0 where
  pub outcome : Outcome WordSize
  pub measures : Measures w count n outcome
  pub tells : (number ≡ refusal_number outcome) × (size ≡ value_of as_word outcome)
