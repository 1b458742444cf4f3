-- The promise of the entry: the errors of a module as text (document 02, paper 1).
use Rattle.std.specs.Prelude.{ℕ, ◌*◌, ◌≤◌, ◌<◌, ◌≡◌, List, length}
use Rattle.std.proofs.Math.Option.{none, some}
use Rattle.std.proofs.lemmas.List.Edits.{sets}
use Rattle.types.specs.Table.{Table}
use Rattle.fallible.specs.Outcome.{Outcome, refused, accepted}
use Rattle.fallible.specs.Errors.{error_width, errors_from}
use Rattle.module_tests.specs.Refusal.{module_refusal}
use Rattle.meaning.specs.Context.{each, All}
use Rattle.text.specs.Length.{capped}
use Rattle.text.specs.Written.{Fits}
use Rattle.display.specs.Names.{NamesExist}
use Rattle.display.specs.Length.{Filled}
use Rattle.error_messages.specs.Description.{Inputs, names_in, description_of, Readable}

-- "Write each error as the Rust's description, one line each": those of the first `many` errors
unfoldable pub messages_of : Inputs → (errors : List ℕ) → (many : ℕ) → List ℕ
messages_of x errors many = each (description_of x) (errors_from errors 0 many)

abbrev pub needed : Inputs → (errors : List ℕ) → (many : ℕ) → ℕ
needed x errors many = length (messages_of x errors many)

-- Test 8 passes: the rows keep the rules, their names exist, so many errors are lent, and each can be printed
pub record Sound (x : Inputs) (errors : List ℕ) (many : ℕ) : Type 0 where
  pub table : Table x.rows x.count
  pub names : NamesExist x.input x.rows x.count
  pub lent : error_width * many ≤ length errors
  pub readable : All (Readable x) (errors_from errors 0 many)

-- What is lent to be written: the text, and a working word a row
pub record Loan : Type 0 where
  pub text : List ℕ
  pub work : List ℕ

-- The working words come to hold the lengths of the rows' texts
abbrev pub Worked : Inputs → (before after : Loan) → Type 0
Worked x before after = Filled (names_in x) x.rows x.count before.work after.work

-- The whole promise: tests 1 to 4, then 8, then 5, then 9; the text is written from the start, and nothing past it
pub record Answered (x : Inputs) (errors : List ℕ) (many : ℕ) (before after : Loan) (answer : Outcome ℕ) : Type 0 where
  pub turned_back : (number place : ℕ) → module_refusal x.input ≡ some (number, place)
      → (answer ≡ refused number place) × (after ≡ before)
  pub unsound : module_refusal x.input ≡ none → (Sound x errors many → ⊥) → (answer ≡ refused 8 0) × (after ≡ before)
  pub few_words : module_refusal x.input ≡ none → Sound x errors many → length before.work < x.count
      → (answer ≡ refused 5 0) × (after ≡ before)
  pub too_long : module_refusal x.input ≡ none → Sound x errors many → x.count ≤ length before.work
      → (Fits (messages_of x errors many) before.text 0 → ⊥)
      → (answer ≡ refused 9 (capped (needed x errors many))) × (after.text ≡ before.text) × Worked x before after
  pub written : module_refusal x.input ≡ none → Sound x errors many → x.count ≤ length before.work
      → Fits (messages_of x errors many) before.text 0
      → (answer ≡ accepted (needed x errors many)) × (after.text ≡ sets before.text 0 (messages_of x errors many)) × Worked x before after
