-- Where a byte is: the place that `position` gives, or the end. Assumes nothing.
use Rattle.std.proofs.Common.{◌≡◌, ◌+◌, ◌-◌, ◌≤◌, ◌<◌, ℕ, Bool, true, false, List, length, take, drop, refl, ap, arith, add-one, add_comm, length-drop}
use Rattle.std.specs.Prelude.{position, ◌==◌, nat_lt, Some, None}
use Rattle.std.specs.List.{position_or_len}
use Rattle.std.proofs.lemmas.List.Recursion.{is_position_or_len}
use Rattle.std.proofs.lemmas.List.Sums.{prefix_len-le-length}
use Rattle.std.proofs.Math.Seq.{take_all}
use borrow.Author.Tests.{ltb-true, ltb-false}
use Rattle.literal_cases.specs.Places.{index_of}

module _ (byte : ℕ) where
  place : (bytes : List ℕ) → index_of byte bytes ≡ position_or_len (λ b. b == byte) bytes
  place bytes = is_position_or_len (index_of byte) (λ b. b == byte) refl (λ b rest. rw (add_comm 1 (index_of byte rest), add-one) refl) bytes

  pub found : (bytes : List ℕ) (i : ℕ) → Some i ≡ position (λ b. b == byte) bytes → (i ≡ index_of byte bytes) × (i < length bytes)
  found bytes i e = go (nat_lt (position_or_len (λ b. b == byte) bytes) (length bytes)) refl
    where
      go : (t : Bool) → nat_lt (position_or_len (λ b. b == byte) bytes) (length bytes) ≡ t → (i ≡ index_of byte bytes) × (i < length bytes)
      go true q =
          let known = rw q at e in
          let same : i ≡ position_or_len (λ b. b == byte) bytes = cc in
          let here = place bytes in
          let less : position_or_len (λ b. b == byte) bytes < length bytes = ltb-true _ _ q in
          (omega arith, omega arith)
      go false q = let known = rw q at e in cc

  pub absent : (bytes : List ℕ) → None ≡ position (λ b. b == byte) bytes → length bytes ≡ index_of byte bytes
  absent bytes e = go (nat_lt (position_or_len (λ b. b == byte) bytes) (length bytes)) refl
    where
      go : (t : Bool) → nat_lt (position_or_len (λ b. b == byte) bytes) (length bytes) ≡ t → length bytes ≡ index_of byte bytes
      go true q = let known = rw q at e in cc
      go false q =
          let here = place bytes in
          let less : length bytes ≤ position_or_len (λ b. b == byte) bytes = ltb-false _ _ q in
          let most : position_or_len (λ b. b == byte) bytes ≤ length bytes = prefix_len-le-length _ bytes in
          omega arith

  -- The same of the bytes from a place on
  module _ (bytes : List ℕ) (from : ℕ) (there : from ≤ length bytes) where
    rest : take (length bytes - from) (drop from bytes) ≡ drop from bytes
    rest = let long : length (drop from bytes) ≡ length bytes - from = length-drop from bytes in take_all _ (drop from bytes) (omega arith)

    pub found_from : (i : ℕ) → Some i ≡ position (λ b. b == byte) (take (length bytes - from) (drop from bytes)) → from + i ≡ from + index_of byte (drop from bytes)
    found_from i e = ap (λ (n : ℕ). from + n) (found (drop from bytes) i (rw rest at e)).0

    pub absent_from : None ≡ position (λ b. b == byte) (take (length bytes - from) (drop from bytes)) → length bytes ≡ from + index_of byte (drop from bytes)
    absent_from e =
        let end : length (drop from bytes) ≡ index_of byte (drop from bytes) = absent (drop from bytes) (rw rest at e) in
        let long : length (drop from bytes) ≡ length bytes - from = length-drop from bytes in
        omega arith
