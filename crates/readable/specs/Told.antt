-- What an accepted check leaves can be told in words: `messages` never refuses it with 8.
use Rattle.std.specs.Prelude.{ℕ, ◌≡◌, List}
use Rattle.fallible.specs.Outcome.{Outcome, refused, accepted}
use Rattle.meaning.specs.Promise.{Buffers, Counts, Checked}
use Rattle.error_messages.specs.Description.{inputs}
use Rattle.error_messages.specs.Messages.{Sound, Loan, Answered}

-- Test 8 passes on the rows and errors that an accepted check leaves, whatever text is lent for String
abbrev pub LeftSound : Type 0
LeftSound =
    (input built_in : List ℕ) (before after : Buffers) (counts : Counts) → Checked input before after (accepted counts)
    → Sound (inputs input built_in after.rows counts.rows) after.errors counts.errors

-- So whatever keeps the promise of `messages` does not answer 8 to them, whatever else is lent
abbrev pub CheckedReadable : Type 0
CheckedReadable =
    (input built_in : List ℕ) (before after : Buffers) (counts : Counts) → Checked input before after (accepted counts)
    → (lent left : Loan) (answer : Outcome ℕ) → Answered (inputs input built_in after.rows counts.rows) after.errors counts.errors lent left answer
    → (place : ℕ) → answer ≡ refused 8 place → ⊥
