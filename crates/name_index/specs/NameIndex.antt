-- What test 4 is decided by: an index of the names.
use Rattle.std.specs.Prelude.{ℕ, ◌+◌, ◌≤◌, ◌<◌, ◌*◌, ◌/◌, ◌%◌, ◌≡◌, Bool, List, [], ◌∷◌, map, length, get_or}
use Rattle.record_bytes.specs.Bytes.{word_at, head_size}
use Rattle.names.specs.Names.{name_bytes, is_among}

-- An index of names by a hash of their texts. How many hashes there are, and the length of the longest file that it is for
abbrev pub hashes : ℕ
hashes = 1024

abbrev pub indexed : ℕ
indexed = 65536

unfoldable pub hash_from : (start : ℕ) → List ℕ → ℕ
hash_from h [] = h
hash_from h (x ∷ t) = hash_from ((h + x) * 668265263 % 4294967296) t

unfoldable pub hash_of : List ℕ → ℕ
hash_of t = hash_from 0 t / 4194304

pub record Hashed (t : List ℕ) (r : ℕ) : Type 0 where
  pub is : r ≡ hash_of t
  pub small : r < hashes

-- a record stands at p, whole, and ends at `limit` or before; 0 is no such place
pub record Standing (s : List ℕ) (limit p : ℕ) : Type 0 where
  pub some : 1 ≤ p
  pub head : head_size ≤ word_at s p
  pub low : p + word_at s p ≤ limit
  pub whole : p + word_at s p ≤ length s

-- the places of some names below `limit`, the highest first: v is the first, and each has the next in the index; 0 is none
unfoldable pub Chained : (s index : List ℕ) → (limit v : ℕ) → (places : List ℕ) → Type 0
Chained s x limit v [] = v ≡ 0
Chained s x limit v (p ∷ ps) = (v ≡ p) × Standing s limit p × Chained s x p (get_or x (hashes + p / head_size) 0) ps

-- the names in the index with a hash: those that can have a text with it, of the names at `before`, which are all below `limit`
pub record Bucket (s index before : List ℕ) (limit hash : ℕ) : Type 0 where
  pub places : List ℕ
  pub chained : Chained s index limit (get_or index hash 0) places
  pub all : (t : List ℕ) → hash_of t ≡ hash → is_among t (map (name_bytes s) before) ≡ is_among t (map (name_bytes s) places)

-- the index has the names at `before`
pub record NamesIndexed (s index before : List ℕ) (limit : ℕ) : Type 0 where
  pub bucket : (hash : ℕ) → hash < hashes → Bucket s index before limit hash

-- the index has some names
pub record HasNames (s index : List ℕ) : Type 0 where
  pub before : List ℕ
  pub limit : ℕ
  pub has : NamesIndexed s index before limit

-- `r` says whether the text is one of the names in the index
pub record Looked (s index text : List ℕ) (r : Bool) : Type 0 where
  pub is : (before : List ℕ) (limit : ℕ) → NamesIndexed s index before limit → r ≡ is_among text (map (name_bytes s) before)
