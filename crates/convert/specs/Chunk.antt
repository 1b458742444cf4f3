-- Fields that are converted together: their type rows and names are kept, and their cells are made after those of the later fields.
use Rattle.std.specs.Prelude.{ℕ, ◌+◌, ◌*◌, ◌≤◌, ◌<◌, ◌≡◌, List, length, get_or}
use Rattle.types.specs.Ty.{string_name}
use Rattle.types.specs.Table.{IsType}
use Rattle.types.specs.declared.Row.{Row}
use Rattle.types.specs.declared.Row.TheVariants.{Field}
use Rattle.shape.specs.declared.Holds.TheVariants.{Fields}
use Rattle.node.specs.Fine.{FineNodes}
use Rattle.node.specs.declared.Nodes.{Nodes}
use Rattle.walk.specs.declared.Typed.{Typed}
use Rattle.walk.specs.Represents.{Lent, lent}
use Rattle.walk.specs.Cells.{CellsMade}
use Rattle.convert.specs.Post.{Ready, FieldsConverted}
use Rattle.convert.specs.declared.Pass.{Pass}
use Rattle.convert.specs.declared.Chunk.{Chunk}

-- How many fields are converted together at most
abbrev pub chunk : ℕ
chunk = 32

-- The cell of field i: its type row and its name are kept side by side
abbrev pub field_cell : (kept : List ℕ) → (i rest : ℕ) → Row
field_cell kept i rest = Field (get_or kept (2 * i) 0) rest (get_or kept (2 * i + 1) 0)

-- Nodes from a place on
abbrev pub nodes_from : Nodes → (at : ℕ) → Nodes
nodes_from list at = record { from = at; end = list.end; depth = list.depth }

-- The first fields, up to the place `at`, were converted from C to C'. Whatever converts the later ones, and then makes the cells of these, has
-- converted all
pub record FieldsConvertedTo (s : List ℕ) (pass : Pass) (fields : Nodes) (kept : List ℕ) (C C' : Lent) (count at : ℕ) : Type 0 where
  pub ready : Ready s C'
  pub fine : FineNodes s (nodes_from fields at) Fields
  pub long : length kept ≡ 2 * chunk
  pub few : count ≤ chunk
  pub on : fields.from + count ≤ at
  pub known : (i : ℕ) → i < count → IsType C'.rows C'.state.rows (get_or kept (2 * i) 0)
  pub plain : (i : ℕ) → i < count → get_or kept (2 * i + 1) 0 ≡ string_name → ⊥
  pub whole : (o e w b : List ℕ) (later : Typed) → FieldsConverted s pass (nodes_from fields at) C' (lent C.work o e w b later.state) later.ty
      → (w' b' : List ℕ) (r : Typed) → CellsMade (field_cell kept) count w b later.state later.ty w' b' r
      → FieldsConverted s pass fields C (lent C.work o e w' b' r.state) r.ty

-- One field at least was converted
pub record FieldsChunk (s : List ℕ) (pass : Pass) (fields : Nodes) (kept : List ℕ) (C C' : Lent) (r : Chunk) : Type 0 where
  pub to : FieldsConvertedTo s pass fields kept C C' r.count r.from
  pub some : fields.from < r.from
