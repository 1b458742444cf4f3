-- Array compounds whose elements are typed: what the checks promise.
use Rattle.std.specs.Prelude.{ℕ, List}
use Rattle.types.specs.Table.{unfolded}
use Rattle.trees.specs.Record.{location_at}
use Rattle.meaning.specs.Compound.{element_errors, array_errors}
use Rattle.walk.specs.declared.State.{State}
use Rattle.expression_rules.specs.Rules.{Checks}
use Rattle.call_rules.specs.Lists.{ListShown, BothShown}

-- Elements against the element type
abbrev pub CheckElements : (s : List ℕ) (at from stop element : ℕ) (output rows errors : List ℕ) (state : State) (errors' : List ℕ) (state' : State) → Type 0
CheckElements s at from stop element output rows =
    Checks (ListShown s output from stop) (λ cells. element_errors (location_at s at) (unfolded rows element) cells) rows

-- An array compound
abbrev pub ArrayCompound : (s : List ℕ) (at target from stop : ℕ) (output rows errors : List ℕ) (state : State) (errors' : List ℕ) (state' : State) → Type 0
ArrayCompound s at target from stop output rows =
    Checks (BothShown target s output from stop) (λ x. array_errors (location_at s at) x.type x.cells) rows
