-- Parameters that are converted together: their type rows are kept, and their cells are made after those of the later parameters.
use Rattle.std.specs.Prelude.{ℕ, ◌+◌, ◌≤◌, ◌<◌, ◌≡◌, List, [], length, get_or}
use Rattle.types.specs.Table.{IsType}
use Rattle.types.specs.declared.Row.{Row}
use Rattle.types.specs.declared.Row.TheVariants.{Argument}
use Rattle.shape.specs.declared.Holds.TheVariants.{Parameters}
use Rattle.trees.specs.Record.{parameters_at}
use Rattle.node.specs.Fine.{FineNodes}
use Rattle.node.specs.declared.Nodes.{Nodes}
use Rattle.names.specs.declared.BuiltIns.{BuiltIns}
use Rattle.walk.specs.declared.Typed.{Typed}
use Rattle.walk.specs.Represents.{Lent, lent}
use Rattle.walk.specs.Cells.{CellsMade}
use Rattle.convert.specs.Chunk.{nodes_from}
use Rattle.convert.specs.declared.Chunk.{Chunk}
use Rattle.convert.specs.Post.{Ready}
use Rattle.declare.specs.Post.{ConvertedParameters}

-- How many parameters are converted together at most
abbrev pub chunk : ℕ
chunk = 64

-- The cell of argument i
abbrev pub argument_cell : (kept : List ℕ) → (i rest : ℕ) → Row
argument_cell kept i rest = Argument (get_or kept i 0) rest

-- There is a parameter
abbrev pub HasParameter : List ℕ → Nodes → Type 0
HasParameter s list = parameters_at s list.depth list.from list.end ≡ [] → ⊥

-- The first parameters, up to the place `at`, were converted from C to C'. Whatever converts the later ones, and then makes the cells of these,
-- has converted all
pub record ParametersConvertedTo (s : List ℕ) (names : BuiltIns) (list : Nodes) (kept : List ℕ) (C C' : Lent) (count at : ℕ) : Type 0 where
  pub ready : Ready s C'
  pub fine : FineNodes s (nodes_from list at) Parameters
  pub long : length kept ≡ chunk
  pub few : count ≤ chunk
  pub on : list.from + count ≤ at
  pub inside : 1 ≤ count → at ≤ list.end
  pub known : (i : ℕ) → i < count → IsType C'.rows C'.state.rows (get_or kept i 0)
  pub whole : (o e w b : List ℕ) (later : Typed) → ConvertedParameters s names (nodes_from list at) C' (lent C.work o e w b later.state) later.ty
      → (w' b' : List ℕ) (r : Typed) → CellsMade (argument_cell kept) count w b later.state later.ty w' b' r
      → ConvertedParameters s names list C (lent C.work o e w' b' r.state) r.ty

-- One parameter at least was converted
pub record ParametersChunk (s : List ℕ) (names : BuiltIns) (list : Nodes) (kept : List ℕ) (C C' : Lent) (r : Chunk) : Type 0 where
  pub to : ParametersConvertedTo s names list kept C C' r.count r.from
  pub some : 1 ≤ r.count
