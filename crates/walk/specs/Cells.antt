-- The cells of a list. A cell names the one behind it, so they are made from the last to the first.
use Rattle.std.specs.Prelude.{ℕ, zero, suc, ◌<◌, ◌≡◌, List}
use Rattle.types.specs.Table.{Table, Extends, IsCell}
use Rattle.types.specs.Post.{PartsOk, Sort}
use Rattle.types.specs.declared.Row.{Row}
use Rattle.row_index.specs.Index.{Indexed}
use Rattle.walk.specs.declared.State.{State}
use Rattle.walk.specs.declared.Typed.{Typed}
use Rattle.walk.specs.Post.{Makes}

-- n cells were made before the list `rest`: `cell i rest` is the row of cell i
unfoldable pub CellsMade : (cell : (i rest : ℕ) → Row) → (n : ℕ) → (rows index : List ℕ) → State → (rest : ℕ) → (rows' index' : List ℕ) → Typed → Type 0
CellsMade cell zero rows index state rest rows' index' r = (rows' ≡ rows) × (index' ≡ index) × (r ≡ record { ty = rest; state = state })
CellsMade cell (suc n) rows index state rest rows' index' r =
    (w : List ℕ) × (b : List ℕ) × (t : Typed) × Makes (cell n rest) rows index state w b t × CellsMade cell n w b t.state t.ty rows' index' r

-- They can be made, and are cells of kind k, as `rest` is
pub record CellsOk (cell : (i rest : ℕ) → Row) (k n : ℕ) (rows index : List ℕ) (state : State) (rest : ℕ) : Type 0 where
  pub table : Table rows state.rows
  pub indexed : Indexed rows state.rows index
  pub parts : (i : ℕ) → i < n → (w : List ℕ) (count x : ℕ) → Extends rows state.rows w count → IsCell w count k x → PartsOk w count (cell i x)
  pub sort : (w : List ℕ) (count i x r : ℕ) → Sort w count (cell i x) r → IsCell w count k r
  pub later : IsCell rows state.rows k rest
