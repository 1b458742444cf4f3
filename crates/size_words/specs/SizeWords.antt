-- The fifth word of a row, its size (document 02, paper 3), calculated from the fifth words of its parts.
use Rattle.std.specs.Prelude.{ℕ, ◌+◌, ◌*◌, min, cond, ◌||◌, eqb}

-- 65,536: the type has more than 65,535 words
abbrev pub too_large_word : ℕ
too_large_word = 65536

-- 65,537: Unknown is inside
abbrev pub unknown_word : ℕ
unknown_word = 65537

-- Words counted no further than 65,536
abbrev pub capped : (words : ℕ) → ℕ
capped words = min words too_large_word

-- Unknown inside one of two parts is inside both together; else the word
abbrev pub known : (first second word : ℕ) → ℕ
known first second word = cond (eqb first unknown_word || eqb second unknown_word) unknown_word word

-- Of an array, from its element's
abbrev pub array_word : (element size : ℕ) → ℕ
array_word element size = known element 0 (capped (size * element))

-- Of a field cell, from its type's and its rest's
abbrev pub field_word : (type rest : ℕ) → ℕ
field_word type rest = known type rest (capped (type + rest))
