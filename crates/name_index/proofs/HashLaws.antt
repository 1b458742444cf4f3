-- The hash of a text, byte by byte. Assumes nothing.
use Prim.Native.Nat.{ℕ, ◌+◌, ◌*◌, ◌≤◌, ◌<◌, ◌/◌, ◌%◌}
use mathlib.Core.Path.{◌≡◌, refl, sym, ◌∙◌, ap}
use mathlib.Core.List.{List}
use lib.ListN.{length, get_or, drop, drop_of_length-le}
use lib.Seq.{drop-cons}
use native.Mathlib.Numerals.{add-one}
use native.Mathlib.Omega.{arith}
use Rattle.name_index.specs.NameIndex.{hash_from, hash_of, Hashed}

-- The bytes before `i` are in the hash
pub record Hashing (t : List ℕ) (i h : ℕ) : Type 0 where
  pub inside : i ≤ length t
  pub small : h < 4294967296
  pub rest : hash_from 0 t ≡ hash_from h (drop i t)

pub hash_start : (t : List ℕ) → Hashing t 0 0
hash_start t = record { inside = omega arith; small = omega arith; rest = refl }

pub hash_done : (t : List ℕ) (i h : ℕ) → Hashing t i h → length t ≤ i → Hashed t (h / 4194304)
unfolding hash_from hash_of
hash_done t i h k p =
    let l = k.small in
    record { is = ap (λ (x : ℕ). x / 4194304) (sym (k.rest ∙ rw (drop_of_length-le t p))); small = omega arith }

pub hash_on : (t : List ℕ) (i h x : ℕ) → Hashing t i h → i < length t → x ≡ get_or t i 0 → Hashing t (i + 1) ((h + x) * 668265263 % 4294967296)
unfolding hash_from
hash_on t i h x k p e = record { inside = omega arith; small = omega arith; rest = k.rest ∙ rw (drop-cons t i 0 p, add-one, e) }
