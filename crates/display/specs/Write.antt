-- Writing a row's own bytes: what is left to write is its parts. Inner to the crate.
use Rattle.std.specs.Prelude.{ℕ, ◌<◌, ◌≡◌, List, length}
use Rattle.std.proofs.lemmas.List.Edits.{sets}
use Rattle.text.specs.Written.{Fits}
use Rattle.display.specs.Display.{NameTexts}
use Rattle.display.specs.Length.{row_text}
use Rattle.display.specs.declared.Inner.{Inner}

-- A row's own bytes are written, and `inner` has the rows of its parts and their places. Once these are written too, in either order, its text is
pub record Owned (names : NameTexts) (w : List ℕ) (n : ℕ) (text text' : List ℕ) (at : ℕ) (inner : Inner) : Type 0 where
  pub lower : (inner.first < n) × (inner.second < n)
  pub first : Fits (row_text names w inner.first) text' inner.front
  pub second : Fits (row_text names w inner.second) text' inner.back
  pub long : length text' ≡ length text
  pub whole : sets (sets text' inner.front (row_text names w inner.first)) inner.back (row_text names w inner.second)
      ≡ sets text at (row_text names w n)
  pub swapped : sets (sets text' inner.back (row_text names w inner.second)) inner.front (row_text names w inner.first)
      ≡ sets text at (row_text names w n)
