-- Where the names of a module stand, by number.
use Rattle.std.specs.Prelude.{ℕ, ◌+◌, ◌≤◌, ◌<◌, ◌≡◌, List, length, get_or}
use Rattle.record_bytes.specs.Bytes.{word_at, head_size}
use Rattle.names.specs.Names.{name_places, name_count}

-- No module has so many names: each has a head of 16 bytes
abbrev pub max_names : ℕ
max_names = 4096

-- A name's record is whole
pub record NameStands (s : List ℕ) (place : ℕ) : Type 0 where
  pub head : head_size ≤ word_at s place
  pub whole : place + word_at s place ≤ length s

-- `places` begins with the places of the module's names, by number
pub record NamesListed (s places : List ℕ) : Type 0 where
  pub room : name_count s ≤ length places
  pub at : (n : ℕ) → n < name_count s → get_or places n 0 ≡ get_or (name_places s) n 0
  pub stands : (n : ℕ) → n < name_count s → NameStands s (get_or places n 0)

-- The same, and `r` is how many names there are; the words past them are as they were
pub record NamesFound (s before places : List ℕ) (r : ℕ) : Type 0 where
  pub listed : NamesListed s places
  pub many : r ≡ name_count s
  pub few : r < max_names
  pub past : (n : ℕ) → name_count s ≤ n → get_or places n 0 ≡ get_or before n 0
