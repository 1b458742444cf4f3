-- The tests of equality decide it, and counts that use them do not depend on the order of a list.
use Prim.Native.Nat.{ℕ, suc}
use mathlib.Core.Path.{◌≡◌, refl, sym, ap, ap₂}
use mathlib.Core.Bool.{Bool, true, false, cond, ◌||◌, true≢false}
use mathlib.Core.List.{List, ◌∷◌, Permᴰ}
use lib.Dec.{eqb}
use borrow.Author.Tests.{eq-eqb, eqb-true}
use Rattle.types.specs.Ty.{Ty, same, member, distinct_count}
use Rattle.types.proofs.Laws.{same_refl, same_true}
use Rattle.meaning.specs.TypeError.{TypeError, Operand, plain, row}
use Rattle.names.specs.Names.{same_bytes}
use Rattle.names.proofs.NameLaws.{same_refl as bytes-reflexive, same_true as bytes-sound}
use Rattle.shape.proofs.ShapeLaws.{and_both}
use Rattle.meaning.specs.JoiningOrder.{same_operand, same_error}
use Rattle.meaning.proofs.Permutation.{DecidesEqual, invariant}

-- Bytes
pub bytes_equal : DecidesEqual same_bytes
bytes_equal = record { reflexive = bytes-reflexive; sound = bytes-sound }

-- Errors
operand_reflexive : (a : Operand) → same_operand a a ≡ true
unfolding same_operand
operand_reflexive (plain n) = eq-eqb n n refl
operand_reflexive (row t) = same_refl t

operand_sound : (a b : Operand) → same_operand a b ≡ true → a ≡ b
unfolding same_operand
operand_sound (plain m) (plain n) e = ap plain (eqb-true m n e)
operand_sound (plain m) (row u) e = absurd (true≢false (sym e))
operand_sound (row t) (plain n) e = absurd (true≢false (sym e))
operand_sound (row t) (row u) e = ap row (same_true t u e)

error_reflexive : (e : TypeError) → same_error e e ≡ true
error_reflexive e =
    rw (eq-eqb e.kind e.kind refl, eq-eqb e.file e.file refl, eq-eqb e.line e.line refl, eq-eqb e.column e.column refl)
    (rw (operand_reflexive e.first, operand_reflexive e.second, operand_reflexive e.third, eq-eqb e.place e.place refl))

error_sound : (e f : TypeError) → same_error e f ≡ true → e ≡ f
error_sound e f h =
    let place = and_both _ (eqb e.place f.place) h in
    let third = and_both _ (same_operand e.third f.third) place.0 in
    let second = and_both _ (same_operand e.second f.second) third.0 in
    let first = and_both _ (same_operand e.first f.first) second.0 in
    let column = and_both _ (eqb e.column f.column) first.0 in
    let line = and_both _ (eqb e.line f.line) column.0 in
    let file = and_both (eqb e.kind f.kind) (eqb e.file f.file) line.0 in
    λ i. record {
      kind = eqb-true e.kind f.kind file.0 i;
      file = eqb-true e.file f.file file.1 i;
      line = eqb-true e.line f.line line.1 i;
      column = eqb-true e.column f.column column.1 i;
      first = operand_sound e.first f.first first.1 i;
      second = operand_sound e.second f.second second.1 i;
      third = operand_sound e.third f.third third.1 i;
      place = eqb-true e.place f.place place.1 i;
    }

pub error_equal : DecidesEqual same_error
error_equal = record { reflexive = error_reflexive; sound = error_sound }

-- Types: membership and the count of different members
or_swap : (x y z : Bool) → (x || (y || z)) ≡ (y || (x || z))
or_swap true true z = refl
or_swap true false z = refl
or_swap false true z = refl
or_swap false false z = refl

pub member_permuted : (t : Ty) {l r : List Ty} → Permᴰ l r → member t l ≡ member t r
unfolding member
member_permuted t = invariant (member t) (λ u l r p e. ap (λ x. same t u || x) e) (λ u v l. or_swap (same t u) (same t v) (member t l))

-- Two members exchanged: if they are equal it is the same list, else neither counts as the other
distinct_swap : (t u : Ty) (l : List Ty) → distinct_count (t ∷ u ∷ l) ≡ distinct_count (u ∷ t ∷ l)
unfolding distinct_count member
distinct_swap t u l = go (same t u) (same u t) refl refl
  where
    equal : t ≡ u → distinct_count (t ∷ u ∷ l) ≡ distinct_count (u ∷ t ∷ l)
    equal e = ap₂ (λ x y. distinct_count (x ∷ y ∷ l)) e (sym e)

    other : (x y : Bool) (n : ℕ) → cond x (cond y n (suc n)) (suc (cond y n (suc n))) ≡ cond y (cond x n (suc n)) (suc (cond x n (suc n)))
    other true true n = refl
    other true false n = refl
    other false true n = refl
    other false false n = refl

    go : (x y : Bool) → same t u ≡ x → same u t ≡ y → distinct_count (t ∷ u ∷ l) ≡ distinct_count (u ∷ t ∷ l)
    go true y p q = equal (same_true t u p)
    go false true p q = equal (sym (same_true u t q))
    go false false p q = rw (p, q) (other (member t l) (member u l) (distinct_count l))

pub distinct_permuted : {l r : List Ty} → Permᴰ l r → distinct_count l ≡ distinct_count r
unfolding distinct_count
distinct_permuted = invariant distinct_count (λ t l r p e. ap₂ (λ x n. cond x n (suc n)) (member_permuted t p) e) distinct_swap
