-- What the check of an initial value promises.
use Rattle.std.specs.Prelude.{ℕ, ◌-◌, Bool, true, false, List}
use Rattle.types.specs.Ty.{Ty}
use Rattle.trees.specs.Tree.{InitialValue}
use Rattle.trees.specs.Record.{records_at, to_initial_value}
use Rattle.names.specs.declared.BuiltIns.{BuiltIns}
use Rattle.meaning.specs.TypeError.{TypeError}
use Rattle.meaning.specs.Context.{Context}
use Rattle.meaning.specs.Compound.{initial_errors, global_initial_errors, initial_slots}
use Rattle.walk.specs.Represents.{Lent}
use Rattle.walk.specs.Post.{Walked}
use Rattle.convert.specs.Convert.{visiting}
use Rattle.compound.specs.Post.{Aimed}
use Rattle.initial_value.specs.declared.Value.{Value}

-- The value that a variable starts with, among the records from one place to another
abbrev pub initial_at : List ℕ → (depth from end : ℕ) → InitialValue
initial_at s d from end = to_initial_value (records_at s d from end)

-- Its errors at a declared type: a local's plain value is compared with that type, a global's is not
abbrev pub value_errors : (compare : Bool) → Context → (declared : Ty) → InitialValue → List TypeError
value_errors true = initial_errors
value_errors false = global_initial_errors

-- A value from `from` to `end` was checked for a variable of the type row `target`
abbrev pub InitialChecked : (s : List ℕ) → BuiltIns → InitialValue → (compare : Bool) → (from end target : ℕ) → (C C' : Lent) → Type 0
InitialChecked s names value compare from end target C C' =
    Walked (Aimed s names C target) (λ x. visiting true (initial_slots x.ctx value) (value_errors compare x.ctx x.type value) (end - from)) from end C C'

-- The value by its place, with so many levels left
abbrev pub InitialCheckedAt : (s : List ℕ) → BuiltIns → (depth from end : ℕ) → (compare : Bool) → (target : ℕ) → (C C' : Lent) → Type 0
InitialCheckedAt s names depth from end compare target C C' = InitialChecked s names (initial_at s depth from end) compare from end target C C'

-- The value of a variable was checked
abbrev pub ValueChecked : (s : List ℕ) → BuiltIns → Value → (C C' : Lent) → Type 0
ValueChecked s names value C C' = InitialCheckedAt s names value.depth value.from value.end value.compare value.ty C C'
