-- The names that a function declares, and the working words without them.
use Rattle.std.specs.Prelude.{ℕ, Bool, false, ◌||◌, List, [], ◌∷◌, eqb, set}
use Rattle.std.proofs.Math.Option.{Option, none, some}
use Rattle.trees.specs.Tree.{Parameter, Statement}
use Rattle.meaning.specs.Statement.{declared_names}
use Rattle.walk.specs.Words.{word_place}

-- Those of a body, if there is one
unfoldable pub body_names : Option Statement → List ℕ
body_names none = []
body_names (some t) = declared_names t

-- The names of parameters
unfoldable pub parameter_names : List Parameter → List ℕ
parameter_names [] = []
parameter_names (p ∷ ps) = p.name ∷ parameter_names ps

-- Whether a name is one of these
unfoldable pub is_one_of : (name : ℕ) → (names : List ℕ) → Bool
is_one_of name [] = false
is_one_of name (n ∷ names) = eqb name n || is_one_of name names

-- The working words, with the word `which` of each of these names 0
unfoldable pub cleared_words : (which : ℕ) → (names work : List ℕ) → List ℕ
cleared_words which [] work = work
cleared_words which (n ∷ names) work = cleared_words which names (set work (word_place n which) 0)
