-- What the steps promise, and the form of a walk's promise.
use Rattle.std.specs.Prelude.{ℕ, ◌≡◌, true, false, Option, Some, None, List, [], ◌∷◌}
use Rattle.types.specs.Ty.{Ty}
use Rattle.types.specs.Table.{unfolded, IsType}
use Rattle.types.specs.Post.{type_of_row, Sort, InternPost}
use Rattle.types.specs.declared.Row.{Row}
use Rattle.types.specs.declared.Row.TheVariants.{Pointer, Array, Struct, Function, Alias, DistinctAlias, Field}
use Rattle.types.specs.declared.Row.TheVariants.{Argument}
use Rattle.types.specs.declared.Interned.{Interned}
use Rattle.row_index.specs.Index.{with_rows}
use Rattle.fallible.specs.declared.Error.{Error}
use Rattle.fallible.specs.Errors.{error_list, pushed}
use Rattle.walk.specs.Effect.{Effect, meeting}
use Rattle.meaning.specs.TypeError.{TypeError}
use Rattle.walk.specs.Represents.{Lent, lent, Good, Grew, Frame, Told, Does, Typing}
use Rattle.walk.specs.declared.State.{State}
use Rattle.walk.specs.declared.Typed.{Typed}

-- What stands for a row that finds no room: Unknown for a type, no cells for a list
abbrev pub substitute_for : Row → ℕ
substitute_for (Pointer t) = 1
substitute_for (Array t size) = 1
substitute_for (Struct fields) = 1
substitute_for (Function returned arguments) = 1
substitute_for (Alias t name) = 1
substitute_for (DistinctAlias t name) = 1
substitute_for (Field t rest name) = 0
substitute_for (Argument t rest) = 0

-- The row has number n: its type is met
pub record Made (row : Row) (C C' : Lent) (n : ℕ) : Type 0 where
  pub grew : Grew C C'
  pub sort : Sort C'.rows C'.state.rows row n
  pub type : C'.state.full ≡ false → unfolded C'.rows n ≡ type_of_row row (unfolded C.rows)
  pub does : Does (meeting (type_of_row row (unfolded C.rows) ∷ []) 1) C C'

-- The answer of `intern` as the result of `make`: past a lack of room the counts stay as they are
abbrev pub result_of : Row → State → Option Interned → Typed
result_of row state (Some made) = record { ty = made.number; state = record { errors = state.errors; rows = made.count; full = state.full } }
result_of row state None = record { ty = substitute_for row; state = record { errors = state.errors; rows = state.rows; full = true } }

-- `make` does what `intern` does, and its effect is the same whatever else is lent
pub record Makes (row : Row) (rows index : List ℕ) (state : State) (rows' index' : List ℕ) (r : Typed) : Type 0 where
  pub answer : Option Interned
  pub interned : InternPost rows state.rows row rows' answer
  pub result : r ≡ result_of row state answer
  pub linked : index' ≡ with_rows index rows' state.rows r.state.rows
  pub made : (work output errors : List ℕ) → Good (lent work output errors rows index state)
      → Made row (lent work output errors rows index state) (lent work output errors rows' index' r.state) r.ty

-- A state with another count of errors
abbrev pub counted : State → (errors : ℕ) → State
counted state errors = record { errors = errors; rows = state.rows; full = state.full }

-- The error is pushed, and counted in the state
pub record Reported (errors : List ℕ) (state : State) (error : Error) (errors' : List ℕ) (state' : State) : Type 0 where
  pub list : error_list errors' state'.errors ≡ pushed (error_list errors state.errors) error
  pub rest : state' ≡ counted state state'.errors

-- The errors are told in words, with or without room: each by rows that show its types. Of the state only their count is another
pub record Tells (rows : List ℕ) (told : List TypeError) (errors : List ℕ) (state : State) (errors' : List ℕ) (state' : State) : Type 0 where
  pub list : Told rows state.rows told (error_list errors state.errors) (error_list errors' state'.errors)
  pub rest : state' ≡ counted state state'.errors

-- A walk over the bytes from `from` to `to`: for whatever is given, C goes to C' with its effect
pub record Walked {X : Type 0} (Given : X → Type 0) (effect : X → Effect) (from to : ℕ) (C C' : Lent) : Type 0 where
  pub grew : Grew C C'
  pub frame : Frame from to C.output C'.output
  pub does : (x : X) → Given x → Does (effect x) C C'

-- and the row number r shows its type
pub record WalkedTo {X : Type 0} (Given : X → Type 0) (type : X → Ty) (effect : X → Effect) (from to : ℕ) (C C' : Lent) (r : ℕ) : Type 0 where
  pub walked : Walked Given effect from to C C'
  pub is : IsType C'.rows C'.state.rows r
  pub typing : (x : X) → Given x → Typing C' r (type x)
