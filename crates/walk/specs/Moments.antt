-- All that is lent to a walk, as contracts name it: the working words, and what the walk holds.
use Rattle.std.specs.Prelude.{ℕ, List}
use Rattle.walk.specs.Represents.{Lent, lent}
use Rattle.walk.specs.declared.Walk.{Walk}

-- At the moment at which the working words and the walk are these
abbrev pub moment : (work : List ℕ) → Walk → Lent
moment work walk = lent work walk.output.now walk.errors.now walk.rows.now walk.index.now walk.state
