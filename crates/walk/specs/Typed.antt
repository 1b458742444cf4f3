-- A row number and the state after it was found, as the code's struct.
use Rattle.std.specs.Prelude.{ℕ}
use Rattle.walk.specs.declared.State.{State}
use Rattle.walk.specs.declared.Typed.{Typed}

abbrev pub typed : ℕ → State → Typed
typed ty state = record { ty = ty; state = state }
