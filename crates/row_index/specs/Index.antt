-- An index of rows: for each bucket its highest row, and for each row the one before it in its bucket. Behind them stands the table of digits.
use Rattle.std.specs.Prelude.{ℕ, zero, suc, ◌+◌, ◌-◌, ◌*◌, ◌/◌, ◌%◌, ◌≤◌, ◌<◌, ◌≡◌, cond, Option, Some, None, List, ◌⊎◌, leb, length, get_or, set, take, drop}
use Rattle.literal.specs.Digits.{bytes, DigitTable}
use Rattle.rows.specs.Row.{row_at}
use Rattle.rows.specs.declared.Words.{Words}

-- How many buckets there are: the index begins with a word for each
abbrev pub heads : ℕ
heads = 512

-- How many rows have a place in the index: the words that follow, one for each row from the first
abbrev pub places : ℕ
places = 3584

-- Where the table of digits starts
abbrev pub digits_start : ℕ
digits_start = heads + places

-- How many words an index has
abbrev pub index_length : ℕ
index_length = digits_start + bytes

-- The table of digits in an index
abbrev pub digits_in : List ℕ → List ℕ
digits_in b = take bytes (drop digits_start b)

-- The bucket of a row, by its words
unfoldable pub bucket_of : Words → ℕ
bucket_of r = (r.kind * 268435399 + r.first * 165580141 + r.second * 228826127 + r.name * 141422323) / 262144 % heads

-- v is the highest row of the bucket below row n of w, or 0 if there is none
pub record Highest (w : List ℕ) (bucket n v : ℕ) : Type 0 where
  pub low : v < n
  pub own : 1 ≤ v → bucket_of (row_at w v) ≡ bucket
  pub top : (i : ℕ) → 1 ≤ i → i < n → bucket_of (row_at w i) ≡ bucket → i ≤ v

-- b has the first `count` rows of w in their buckets: those up to `last` are, all `count` or as many as have a place.
-- The word of a bucket is its highest row, the word of a row is the one before it in its bucket.
pub record RowsIndexed (w : List ℕ) (count : ℕ) (b : List ℕ) : Type 0 where
  pub long : length b ≡ index_length
  pub last : ℕ
  pub few : last ≤ count
  pub fits : last ≤ places
  pub all : (last ≡ count) ⊎ (last ≡ places)
  pub head : (bucket : ℕ) → bucket < heads → Highest w bucket (last + 1) (get_or b bucket 0)
  pub link : (n : ℕ) → 1 ≤ n → n ≤ last → Highest w (bucket_of (row_at w n)) n (get_or b (heads + n - 1) 0)

-- What walks are lent: the rows are in their buckets, and the digits in their place
pub record Indexed (w : List ℕ) (count : ℕ) (b : List ℕ) : Type 0 where
  pub rows : RowsIndexed w count b
  pub digits : DigitTable (digits_in b)

-- The index b with row n, of the words r, in its bucket; b as it is if row n has no place
unfoldable pub with_row : List ℕ → (n : ℕ) → Words → List ℕ
with_row b n r = cond (leb n places) (set (set b (heads + n - 1) (get_or b (bucket_of r) 0)) (bucket_of r) n) b

-- The index b with so many rows of w in addition, those past row m, one after the other
unfoldable pub with_next : (b w : List ℕ) → (m more : ℕ) → List ℕ
with_next b w m zero = b
with_next b w m (suc k) = with_row (with_next b w m k) (m + k + 1) (row_at w (m + k + 1))

-- The index b with the rows of w past row m, as far as row n
abbrev pub with_rows : (b w : List ℕ) → (m n : ℕ) → List ℕ
with_rows b w m n = with_next b w m (n - m)

-- n is the number of a row past row m that has the words r
pub record RowPast (w : List ℕ) (m count : ℕ) (r : Words) (n : ℕ) : Type 0 where
  pub past : m < n
  pub high : n ≤ count
  pub found : row_at w n ≡ r

-- The number of a row past row m that has the words r, or None where none of the rows that have a place is such a row
abbrev pub Followed : List ℕ → (m count : ℕ) → Words → Option ℕ → Type 0
Followed w m count r (Some n) = RowPast w m count r n
Followed w m count r None = (i : ℕ) → m < i → i ≤ count → i ≤ places → row_at w i ≡ r → ⊥
