-- What the functions behind the entry ask for and promise.
use Rattle.std.specs.Prelude.{ℕ, ◌*◌, ◌≤◌, ◌<◌, ◌≡◌, ◌⊎◌, List, length, get_or}
use Rattle.std.specs.Borrow.{MutBor}
use denote.Triple.Both.{Both}
use Rattle.contract.specs.Moments.{old, final}
use Rattle.types.specs.Ty.{string_name, kind_of, name_of, alias_kind, field_kind}
use Rattle.types.specs.Table.{row_width, unfolded}
use Rattle.fallible.specs.Errors.{error_of}
use Rattle.fallible.specs.declared.Error.{Error}
use Rattle.names.specs.Names.{name_count}
use Rattle.layout.specs.Layout.{max_bytes}
use Rattle.listing.specs.Names.{NamesListed}
use Rattle.listing.specs.Literals.{Marked}
use Rattle.display.specs.Length.{Measured}
use Rattle.display.specs.declared.Source.{Source}
use Rattle.error_messages.specs.Description.{Inputs, inputs}
use Rattle.error_messages.specs.Messages.{Loan}
-- The number of the refusal and its place, or the length, of each case of the answer
pub use Rattle.refusal.specs.Refusal.{outcome_of}

-- What messages are printed from
abbrev pub inputs_of : Source → Inputs
inputs_of source = inputs source.s.now source.built_in.now source.rows.now source.count

-- and as the entry is lent it
abbrev pub old_inputs : (s built_in rows : List ℕ) → (count : ℕ) → Inputs
old_inputs s built_in rows count = inputs s built_in rows count

-- The error whose words are lent
abbrev pub error_in : (words : List ℕ) → Error
error_in words = error_of (λ place. get_or words place 0)

-- What tests of an error need: the places of the names and how many there are, the marks of the literals, rows that are lent
pub record Known (x : Inputs) (places marks : List ℕ) (names : ℕ) : Type 0 where
  pub small : length x.input ≤ max_bytes
  pub listed : NamesListed x.input places
  pub many : names ≡ name_count x.input
  pub marked : Marked x.input marks
  pub room : row_width * x.count ≤ length x.rows

-- What writing needs: the rows' lengths, and the places of the names
pub record Ready (x : Inputs) (places work : List ℕ) : Type 0 where
  pub small : length x.input ≤ max_bytes
  pub measured : Measured x.input x.built_in places x.rows x.count x.count work

-- The name of row n, if it has one, is String's or below `names`
pub record Named (w : List ℕ) (n names : ℕ) : Type 0 where
  pub name : alias_kind ≤ kind_of (unfolded w n) → kind_of (unfolded w n) ≤ field_kind
      → (name_of (unfolded w n) ≡ string_name) ⊎ (name_of (unfolded w n) < names)

-- What is lent to be written, in an `ensures` at entry
abbrev pub loan : (text work : List ℕ) → Loan
loan text work = record { text = text; work = work }

abbrev pub loan_before : (text work : Both (MutBor (List ℕ)) (MutBor (List ℕ))) → Loan
loan_before text work = loan (old text) (old work)

-- and at exit
abbrev pub loan_after : (text work : Both (MutBor (List ℕ)) (MutBor (List ℕ))) → Loan
loan_after text work = loan (final text) (final work)
