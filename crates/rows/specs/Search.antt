-- The search for a row.
use Rattle.std.specs.Prelude.{ℕ, ◌+◌, ◌-◌, ◌*◌, ◌≤◌, ◌<◌, ◌≡◌, Bool, true, false, Option, Some, None, List, get_or}
use Rattle.rows.specs.Row.{row_width, row_at}
use Rattle.rows.specs.declared.Words.{Words}
use Rattle.rows.specs.declared.Key.{Key}

-- An answer says whether P holds
pub record Decides (P : Type 0) (answer : Bool) : Type 0 where
  pub yes : answer ≡ true → P
  pub no : answer ≡ false → P → ⊥

-- Row n has the key
abbrev pub HasKey : List ℕ → Key → (n : ℕ) → Type 0
HasKey w key n = get_or w (row_width * n - row_width + key.place) 0 ≡ key.word

-- None of the rows past row m, as far as row n, has it
pub record NoneWith (w : List ℕ) (key : Key) (m n : ℕ) : Type 0 where
  pub none : (i : ℕ) → m < i → i ≤ n → HasKey w key i → ⊥

-- Every row with the words r has the key
pub record KeyOf (r : Words) (key : Key) : Type 0 where
  pub inside : key.place < row_width
  pub has : (w : List ℕ) (n : ℕ) → row_at w n ≡ r → HasKey w key n

-- No row from m to n has the key but perhaps m itself
pub record Skipped (w : List ℕ) (m count : ℕ) (key : Key) (n : ℕ) : Type 0 where
  pub low : m ≤ n
  pub high : n ≤ count
  pub none : NoneWith w key m n

-- n is the first row past row m that has the key
pub record FirstWith (w : List ℕ) (m count : ℕ) (key : Key) (n : ℕ) : Type 0 where
  pub past : m < n
  pub high : n ≤ count
  pub has : HasKey w key n
  pub first : NoneWith w key m (n - 1)

-- The first row past row m that has the key, or None where none has it
abbrev pub NextWith : List ℕ → (m count : ℕ) → Key → Option ℕ → Type 0
NextWith w m count key (Some n) = FirstWith w m count key n
NextWith w m count key None = NoneWith w key m count

-- n is the number of the first row past row m that has the words r
pub record FirstRow (w : List ℕ) (m count : ℕ) (r : Words) (n : ℕ) : Type 0 where
  pub past : m < n
  pub high : n ≤ count
  pub found : row_at w n ≡ r
  pub first : (i : ℕ) → m < i → i < n → row_at w i ≡ r → ⊥

-- None of the rows past row m, as far as row `count`, has the words r
abbrev pub NoRow : List ℕ → (m count : ℕ) → Words → Type 0
NoRow w m count r = (i : ℕ) → m < i → i ≤ count → row_at w i ≡ r → ⊥

-- The number of the first row past row m that has the words r, or None where there is none
abbrev pub Found : List ℕ → (m count : ℕ) → Words → Option ℕ → Type 0
Found w m count r (Some n) = FirstRow w m count r n
Found w m count r None = NoRow w m count r
