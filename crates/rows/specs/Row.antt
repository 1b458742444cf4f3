-- Rows of words in a slice, numbered from 1.
use Rattle.std.specs.Prelude.{ℕ, ◌+◌, ◌-◌, ◌*◌, ◌≤◌, ◌≡◌, List, get_or, set}
use Rattle.rows.specs.declared.Words.{Words}

-- A row is five words
abbrev pub row_width : ℕ
row_width = 5

-- The first four words of a row: kind, first, second, name. They tell rows apart
abbrev pub words : (kind first second name : ℕ) → Words
words k f s n = record { kind = k; first = f; second = s; name = n }

-- Those of the row that begins at a place of the table w
abbrev pub row_from : List ℕ → (place : ℕ) → Words
row_from w place = words (get_or w place 0) (get_or w (place + 1) 0) (get_or w (place + 2) 0) (get_or w (place + 3) 0)

-- Those of row n
abbrev pub row_at : List ℕ → ℕ → Words
row_at w n = row_from w (row_width * n - row_width)

-- The fifth word of row n: its size
abbrev pub size_word_at : List ℕ → ℕ → ℕ
size_word_at w n = get_or w (row_width * n - row_width + 4) 0

-- w with the words r, and with `size` as the fifth, as row count + 1
abbrev pub stored : List ℕ → (count : ℕ) → Words → (size : ℕ) → List ℕ
stored w count r size =
    set
    (set (set (set (set w (row_width * count) r.kind) (row_width * count + 1) r.first) (row_width * count + 2) r.second) (row_width * count + 3) r.name)
    (row_width * count + 4) size

-- No two of the first `count` rows have the same first four words
abbrev pub Distinct : List ℕ → (count : ℕ) → Type 0
Distinct w count = (i j : ℕ) → 1 ≤ i → i ≤ count → 1 ≤ j → j ≤ count → row_at w i ≡ row_at w j → i ≡ j
