-- The words that the rules read and make: an error at a record, and row numbers of which 0 says that there is none.
use Rattle.std.specs.Prelude.{ℕ, cond, List, eqb, get_or}
use Rattle.walk.specs.Words.{word_place}

-- A row number, or another where it is 0
abbrev pub or_row : (row other : ℕ) → ℕ
or_row row other = cond (eqb row 0) other row

-- Row 1 is Unknown
abbrev pub or_unknown_row : (row : ℕ) → ℕ
or_unknown_row row = or_row row 1

-- `resolve_identifier` on the working words of a name: local (2), argument (3), global (0)
abbrev pub resolved_word : (work : List ℕ) → (name : ℕ) → ℕ
resolved_word work name =
    or_row (get_or work (word_place name 2) 0) (or_row (get_or work (word_place name 3) 0) (get_or work (word_place name 0) 0))
