-- Places of slots, which have four bytes each.
use Rattle.std.specs.Prelude.{ℕ, ◌+◌, ◌≤◌, ◌<◌, List, [], ◌∷◌, ◌⊎◌}

-- The slots at these places follow each other from one place to another, and no two overlap
unfoldable pub Spaced : (from to : ℕ) → (places : List ℕ) → Type 0
Spaced from to [] = from ≤ to
Spaced from to (p ∷ ps) = (from ≤ p) × Spaced (p + 4) to ps

-- A byte does not lie in the slot at a place
abbrev pub Beside : (i place : ℕ) → Type 0
Beside i p = (i < p) ⊎ (p + 4 ≤ i)
