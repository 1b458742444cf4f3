-- Document 01's module of 112 bytes.
use Rattle.std.specs.Prelude.{ℕ, List, [], ◌∷◌, ◌++◌}

-- A number below 256 in four bytes
abbrev pub word : ℕ → List ℕ
word n = n ∷ 0 ∷ 0 ∷ 0 ∷ []

-- A record's head: length, kind, file 0, line, column
abbrev pub head : (len kind line column : ℕ) → List ℕ
head l k n c = word l ++ word k ++ word n ++ word c

-- Names x and u17, one global x without value, its type record u17 at file 0, line 3, column 8
abbrev pub example : List ℕ
example =
    head 112 1 0 0
    ++ head 52 2 0 0
    ++ head 17 3 0 0 ++ (120 ∷ [])
    ++ head 19 3 0 0 ++ (117 ∷ 49 ∷ 55 ∷ [])
    ++ head 44 83 3 1 ++ word 0
    ++ head 24 16 3 8 ++ word 0 ++ word 1
