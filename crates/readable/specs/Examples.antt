-- A module with a literal out of range: its error has the place of the literal in the file, and can be read.
use Rattle.std.specs.Prelude.{ℕ, ◌≡◌, List, [], ◌∷◌, ◌++◌}
use Rattle.trees.specs.Example.{head, word}
use Rattle.layout.specs.Layout.{Good, layout_of}
use Rattle.trees.specs.Tree.{location}
use Rattle.meaning.specs.TypeError.{literal_out_of_range}
use Rattle.meaning.specs.Context.{All}
use Rattle.meaning.specs.Promise.{placed_errors_of}
use Rattle.listing.specs.Literals.{literal_places}
use Rattle.readable.specs.Readable.{Readable}

-- Names x and u16, one global `x: u16 = 65536` at line 3
abbrev pub bad_literal : List ℕ
bad_literal =
    head 141 1 0 0
    ++ head 52 2 0 0
    ++ head 17 3 0 0 ++ (120 ∷ [])
    ++ head 19 3 0 0 ++ (117 ∷ 49 ∷ 54 ∷ [])
    ++ head 73 83 3 1 ++ word 0
    ++ head 24 16 3 4 ++ word 0 ++ word 1
    ++ head 29 33 3 10 ++ word 0 ++ word 10 ++ (54 ∷ 53 ∷ 53 ∷ 51 ∷ 54 ∷ [])

pub record Examples : Type 0 where
  pub layout : layout_of bad_literal ≡ Good
  pub literals : literal_places bad_literal ≡ 112 ∷ []
  pub errors : placed_errors_of bad_literal ≡ literal_out_of_range (location 112 0 3 10) ∷ []
  pub readable : All (Readable bad_literal) (placed_errors_of bad_literal)
