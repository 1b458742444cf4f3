-- What was put into a buffer, with what it is written to.
use Rattle.std.specs.Prelude.{ℕ, ◌≡◌, List, ◌∷◌, ◌++◌}
use Rattle.program_support.specs.Buffer.{Piece, PutAll}
use Rattle.program_support.specs.declared.print.Buffer.{Buffer}

-- These pieces were put into it one after the other; it is written to the same
pub record Puts {A : Type 0} {n : ℕ} (ps : List Piece) (b b' : Buffer A n) : Type 0 where
  pub all : PutAll ps b.bytes b.used b'.bytes b'.used
  pub out : b'.out ≡ b.out

-- The first of them were, and the one that came next was not: it could not be written
pub record PutsSome {A : Type 0} {n : ℕ} (ps : List Piece) (b b' : Buffer A n) : Type 0 where
  pub done : List Piece
  pub failed : Piece
  pub later : List Piece
  pub are : done ++ (failed ∷ later) ≡ ps
  pub put : Puts done b b'
