-- Lists of expressions whose slots are filled: what is required of them, what they show, and what calls promise.
use Rattle.std.specs.Prelude.{ℕ, zero, suc, ◌+◌, ◌≤◌, ◌<◌, ◌≡◌, List, length}
use Rattle.types.specs.Ty.{Ty, end, node, function_kind, argument_kind}
use Rattle.types.specs.Table.{unfolded, IsType}
use Rattle.record_bytes.specs.Bytes.{word_at}
use Rattle.layout.specs.Layout.{max_bytes, stop_at}
use Rattle.trees.specs.Record.{location_at}
use Rattle.meaning.specs.Expression.{part_of, argument_errors, call_errors}
use Rattle.walk.specs.declared.State.{State}
use Rattle.walk.specs.declared.Typed.{Typed}
use Rattle.walk.specs.Effect.{reporting}
use Rattle.walk.specs.Words.{slot_place, slot_end}
use Rattle.walk.specs.Represents.{Lent, Typing}
use Rattle.expression_rules.specs.Rules.{Gives, Checks}

-- n records with slots follow each other from `at` to `stop`
unfoldable pub Chain : (s : List ℕ) → (n at stop : ℕ) → Type 0
Chain s zero at stop = at ≡ stop
Chain s (suc n) at stop = (slot_end at ≤ stop_at s at) × (stop_at s at ≤ stop) × Chain s n (stop_at s at) stop

-- The slots of n records from `at` on hold type rows; `place` is where the slot of a record stands
unfoldable pub SlotTypes : (place : ℕ → ℕ) → (rows : List ℕ) → (count : ℕ) → (s output : List ℕ) → (n at : ℕ) → Type 0
SlotTypes place rows count s output zero at = Unit {0}
SlotTypes place rows count s output (suc n) at = (place at + 4 ≤ stop_at s at) × IsType rows count (word_at output (place at)) × SlotTypes place rows count s output n (stop_at s at)

-- The records from `at` to `stop`
pub record RecordsListed (s : List ℕ) (at stop : ℕ) : Type 0 where
  pub many : ℕ
  pub chain : Chain s many at stop
  pub long : stop ≤ length s
  pub few : length s ≤ max_bytes

-- with slots that are filled
pub record FilledAt (place : ℕ → ℕ) (rows : List ℕ) (count : ℕ) (s output : List ℕ) (at stop : ℕ) : Type 0 where
  pub listed : RecordsListed s at stop
  pub types : SlotTypes place rows count s output listed.many at
  pub room : stop ≤ length output

-- their own
abbrev pub SlotsFilled : (rows : List ℕ) → (count : ℕ) → (s output : List ℕ) → (at stop : ℕ) → Type 0
SlotsFilled = FilledAt slot_place

-- Their slots show the types of a list of argument cells, one for each record
unfoldable pub SlotsShow : (s output : List ℕ) → (stop : ℕ) → Lent → (cells : Ty) → (at : ℕ) → Type 0
SlotsShow s output stop C end at = at ≡ stop
SlotsShow s output stop C (node k t rest z n) at =
    (k ≡ argument_kind) × (at < stop) × Typing C (word_at output (slot_place at)) t × SlotsShow s output stop C rest (stop_at s at)

abbrev pub ListShown : (s output : List ℕ) → (at stop : ℕ) → Lent → (cells : Ty) → Type 0
ListShown s output at stop C cells = SlotsShow s output stop C cells at

-- A type, and a list of argument cells
pub record TargetAndCells : Type 0 where
  pub type : Ty
  pub cells : Ty

-- The row ty shows the type, and the slots the types in the cells
pub record BothShown (ty : ℕ) (s output : List ℕ) (at stop : ℕ) (C : Lent) (x : TargetAndCells) : Type 0 where
  pub typing : Typing C ty x.type
  pub shown : ListShown s output at stop C x.cells

-- r is how many there are
pub record CountsRecords (s : List ℕ) (at stop r : ℕ) : Type 0 where
  pub count : (n : ℕ) → Chain s n at stop → r ≡ n

-- Arguments against the parameters' cells
abbrev pub CheckArguments : (s : List ℕ) (at from stop cells : ℕ) (output rows errors : List ℕ) (state : State) (errors' : List ℕ) (state' : State) → Type 0
CheckArguments s at from stop cells output rows =
    Checks (ListShown s output from stop) (λ arguments. argument_errors (location_at s at) 1 (unfolded rows cells) arguments) rows

-- `target(arguments)`
abbrev pub Call : (s : List ℕ) (at ty from stop : ℕ) (output rows errors : List ℕ) (state : State) (errors' : List ℕ) (r : Typed) → Type 0
Call s at ty from stop output rows errors state errors' r =
    Gives (BothShown ty s output from stop) (λ x. part_of function_kind x.type) (λ x. reporting (call_errors (location_at s at) x.type x.cells))
    rows errors state errors' r
