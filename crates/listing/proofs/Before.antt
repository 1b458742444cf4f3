-- The bytes before a record's children, by the arms of the code's match: the list of records tested by computation. Assumes nothing.
use Prim.Native.Nat.{ℕ, ◌+◌, ◌-◌, ◌*◌, ◌≤◌, ◌<◌}
use native.Mathlib.Omega.{arith}
use mathlib.Core.Path.{◌≡◌, refl, sym, ap, ◌∙◌, subst}
use mathlib.Core.Bool.{Bool, true, false, cond, ◌&&◌, ◌||◌}
use mathlib.Core.List.{List, [], ◌∷◌}
use mathlib.Core.Logic.{inl, inr}
use borrow.Author.Tests.{leb-true, leb-false, eqb-true}
use lib.Dec.{T, eqb, leb}
use mir.Val.{has_key}
use types.Run.{OneOf, hit}
use Rattle.literal.proofs.Digit.{passes_below, passed}
use Rattle.shape.specs.Shape.{shape_of, due_in}
use Rattle.shape.specs.declared.Shape.{Shape}
use Rattle.shape.proofs.ShapeLaws.{ones, and_both, shaped, above_84}
use Rattle.record_bytes.specs.Bytes.{head_size, field_size}
use Rattle.listing.specs.Literals.{bytes_before}

-- The single kinds of the arms: with free bytes, with two fields; those with one are `ones`. The others stand in ranges
abbrev pub frees : List ℕ
frees = 3 ∷ 33 ∷ 35 ∷ 74 ∷ 82 ∷ 84 ∷ []

abbrev pub twos : List ℕ
twos = 16 ∷ 19 ∷ 41 ∷ []

abbrev pub more_twos : List ℕ
more_twos = 32 ∷ 34 ∷ 81 ∷ []

-- So many bytes stand before the children of each of some kinds
abbrev all_have : (n : ℕ) → List ℕ → Bool
all_have n [] = true
all_have n (j ∷ js) = eqb n (bytes_before j) && all_have n js

pub one_of : (n : ℕ) (js : List ℕ) (k : ℕ) → all_have n js ≡ true → OneOf js k → n ≡ bytes_before k
one_of n [] k e o = absurd o
one_of n (j ∷ []) k e o = eqb-true _ _ (and_both (eqb n (bytes_before j)) true e).0 ∙ ap bytes_before (sym o)
one_of n (j ∷ i ∷ js) k e (inl o) = eqb-true _ _ (and_both (eqb n (bytes_before j)) (all_have n (i ∷ js)) e).0 ∙ ap bytes_before (sym o)
one_of n (j ∷ i ∷ js) k e (inr o) = one_of n (i ∷ js) k (and_both (eqb n (bytes_before j)) (all_have n (i ∷ js)) e).1 o

-- And of a kind that is none of them
abbrev has : (n : ℕ) → (kind : ℕ) → Bool
has n k = has_key frees k || (has_key twos k || (has_key more_twos k || (has_key ones k || eqb n (bytes_before k))))

abbrev NotSingle : (kind : ℕ) → Type 0
NotSingle k = (((Unit {0} × (OneOf frees k → ⊥)) × (OneOf twos k → ⊥)) × (OneOf more_twos k → ⊥)) × (OneOf ones k → ⊥)

not_among : (js : List ℕ) (k : ℕ) (b : Bool) → (OneOf js k → ⊥) → has_key js k || b ≡ true → b ≡ true
not_among js k b none e = go (has_key js k) refl e
  where
    go : (x : Bool) → has_key js k ≡ x → x || b ≡ true → b ≡ true
    go true f g = absurd (none (hit js k (subst T (sym f) tt)))
    go false f g = g

module _ (k : ℕ) (none : NotSingle k) where
  pub in_range_lem : (n low m : ℕ) → passes_below m (λ i. has n (low + i)) ≡ true → low ≤ k → k < low + m → n ≡ bytes_before k
  in_range_lem n low m e p q =
      let z : low + (k - low) ≡ k = omega arith in
      let t = subst (λ (j : ℕ). has n j ≡ true) z (passed m (λ i. has n (low + i)) e (k - low) (omega arith)) in
      let u = not_among twos k _ none.0.0.1 (not_among frees k _ none.0.0.0.1 t) in
      eqb-true n (bytes_before k) (not_among ones k _ none.1 (not_among more_twos k _ none.0.1 u))

  -- The last range has no end in the list
  pub past_47 : 47 ≤ k → k < 4294967296 → head_size ≡ bytes_before k
  unfolding shape_of due_in
  past_47 p q = go (leb 86 k) refl
    where
      go : (b : Bool) → leb 86 k ≡ b → head_size ≡ bytes_before k
      go true f =
          let l : 86 ≤ k = leb-true 86 k f in
          let past = above_84 k refl (tt, λ e. omega arith) (omega arith) q in
          ap (λ (x : Shape). cond (due_in x.holds).free 0 (head_size + field_size * x.fields)) past.is
      go false f = let l : k < 86 = leb-false 86 k f in in_range_lem head_size 47 39 refl p (omega arith)

-- A record has at most two fields
pub few_before : (k : ℕ) → bytes_before k ≤ 24
few_before k = go (due_in (shape_of k).holds).free
  where
    go : (b : Bool) → cond b 0 (head_size + field_size * (shape_of k).fields) ≤ 24
    go true = omega arith
    go false = let l = (shaped k k refl refl).few in omega arith
