-- The list of records at a kind. Assumes nothing.
use Prim.Native.Nat.{ℕ, zero, suc, ◌+◌, ◌≤◌, ◌<◌}
use mathlib.Core.Path.{◌≡◌, refl, sym, ◌∙◌, ap, subst}
use mathlib.Core.Bool.{Bool, true, false, not, ◌&&◌, ◌||◌}
use mathlib.Core.List.{List, [], ◌∷◌}
use mathlib.Core.Logic.{inl, inr}
use lib.Dec.{T, leb, ltb, eqb}
use mir.Val.{has_key}
use types.Run.{OneOf, hit}
use native.Mathlib.Omega.{arith}
use borrow.Author.Tests.{leb-true, leb-false, ltb-true, eqb-true, eqb-false, eq-eqb, ne_eqb}
use Rattle.shape.specs.Shape.{pick, no_field, look_up, shapes, shape_of, Shaped, unlisted, a_module, a_type, an_expression, a_compound, a_statement, an_item}
use Rattle.shape.specs.declared.Shape.{Shape}
use Rattle.shape.specs.declared.Holds.TheVariants.{Nothing}

pub and_both : (a b : Bool) → a && b ≡ true → (a ≡ true) × (b ≡ true)
and_both true b e = (refl, e)
and_both false b e = absurd (let z : ◌≡◌ {A = ℕ} 0 1 = cc in omega arith)

-- every shape of a list has at most two fields
all_few : List (ℕ × Shape) → Bool
all_few [] = true
all_few (r ∷ rs) = leb r.1.fields 2 && all_few rs

few_of : (b : Bool) (x y : Shape) → x.fields ≤ 2 → y.fields ≤ 2 → (pick b x y).fields ≤ 2
few_of true x y p q = p
few_of false x y p q = q

few : (l : List (ℕ × Shape)) (k : ℕ) → all_few l ≡ true → (look_up l k).fields ≤ 2
unfolding all_few
few [] k e = omega arith
few (r ∷ rs) k e =
    let p = and_both (leb r.1.fields 2) (all_few rs) e in
    few_of (eqb k r.0) r.1 (look_up rs k) (leb-true _ _ p.0) (few rs k p.1)

pub shaped : (k j : ℕ) {r : Shape} → k ≡ j → r ≡ shape_of j → Shaped k r
unfolding shape_of all_few
shaped k j {r} p e =
    let q : r ≡ look_up shapes k = e ∙ ap shape_of (sym p) in
    record { is = q; few = rw q (few shapes k refl) }

-- `k` is none of the `n` numbers from `low`
abbrev Others : (low n k : ℕ) → Type 0
Others low zero k = Unit {0}
Others low (suc n) k = Others low n k × (k ≡ low + n → ⊥)

pub past : (low n k : ℕ) → low ≤ k → Others low n k → low + n ≤ k
past low zero k p o = omega arith
past low (suc n) k p o =
    let q = past low n k p o.0 in
    let d = o.1 in
    omega (arith, d)

-- no kind of a list is from `low` to below `high`
clear : (low high : ℕ) → List (ℕ × Shape) → Bool
clear low high [] = true
clear low high (r ∷ rs) = (ltb r.0 low || leb high r.0) && clear low high rs

apart : (low high j k : ℕ) → ltb j low || leb high j ≡ true → low ≤ k → k < high → k ≡ j → ⊥
apart low high j k e p q h = go (ltb j low) refl e
  where
    go : (b : Bool) → ltb j low ≡ b → b || leb high j ≡ true → ⊥
    go true f g = let x = ltb-true j low f in omega arith
    go false f g = let x = leb-true high j g in omega arith

absent : (low high k : ℕ) (l : List (ℕ × Shape)) → clear low high l ≡ true → low ≤ k → k < high → no_field unlisted Nothing ≡ look_up l k
unfolding clear
absent low high k [] e p q = refl
absent low high k (r ∷ rs) e p q =
    let b = and_both (ltb r.0 low || leb high r.0) (clear low high rs) e in
    simp (ne_eqb k r.0 (apart low high r.0 k b.0 p q)) (absent low high k rs b.1 p q)

-- a kind from `low` to below `high`, where the list has none
unlisted_kind : (low high k : ℕ) {r : Shape} → clear low high shapes ≡ true → low ≤ k → k < high → r ≡ no_field unlisted Nothing → Shaped k r
unfolding shape_of
unlisted_kind low high k e p q d = shaped k k refl (d ∙ absent low high k shapes e p q)

module _ {r : Shape} (k : ℕ) (d : r ≡ no_field unlisted Nothing) where
  pub below_16 : Others 1 3 k → k < 16 → Shaped k r
  unfolding clear
  below_16 o p = go (leb 1 k) refl
    where
      go : (b : Bool) → leb 1 k ≡ b → Shaped k r
      go true f = unlisted_kind 4 16 k refl (past 1 3 k (leb-true 1 k f) o) p d
      go false f = unlisted_kind 0 1 k refl (omega arith) (leb-false 1 k f) d

  pub below_32 : Others 21 1 k → 20 < k → k < 32 → Shaped k r
  unfolding clear
  below_32 o p q = unlisted_kind 22 32 k refl (past 21 1 k p o) q d

  pub below_64 : Others 48 3 k → 47 < k → k < 64 → Shaped k r
  unfolding clear
  below_64 o p q = unlisted_kind 51 64 k refl (past 48 3 k p o) q d

  pub below_80 : 74 < k → k < 80 → Shaped k r
  unfolding clear
  below_80 p q = unlisted_kind 75 80 k refl p q d

  pub above_84 : Others 85 1 k → 84 < k → k < 4294967296 → Shaped k r
  unfolding clear
  above_84 o p q = unlisted_kind 86 4294967296 k refl (past 85 1 k p o) q d

-- How many fields a kind has: the code has arms with single kinds, and ranges for the others
abbrev all_have : (n : ℕ) → List ℕ → Bool
all_have n [] = true
all_have n (j ∷ js) = eqb n (shape_of j).fields && all_have n js

pub single_kind : (n : ℕ) (js : List ℕ) (k : ℕ) → all_have n js ≡ true → OneOf js k → n ≡ (shape_of k).fields
single_kind n [] k e o = absurd o
single_kind n (j ∷ []) k e o = eqb-true _ _ (and_both (eqb n (shape_of j).fields) true e).0 ∙ ap (λ i. (shape_of i).fields) (sym o)
single_kind n (j ∷ i ∷ js) k e (inl o) = eqb-true _ _ (and_both (eqb n (shape_of j).fields) (all_have n (i ∷ js)) e).0 ∙ ap (λ x. (shape_of x).fields) (sym o)
single_kind n (j ∷ i ∷ js) k e (inr o) = single_kind n (i ∷ js) k (and_both (eqb n (shape_of j).fields) (all_have n (i ∷ js)) e).1 o

-- the single kinds with two fields, and those with one
abbrev pub twos : List ℕ
twos = 16 ∷ 19 ∷ 41 ∷ 81 ∷ []

abbrev pub ones : List ℕ
ones = 47 ∷ 50 ∷ 64 ∷ 66 ∷ 80 ∷ 83 ∷ 85 ∷ []

-- the other of the m kinds from `low` have n fields
abbrev others : (n low m : ℕ) → Bool
others n low zero = true
others n low (suc m) = (has_key twos (low + m) || (has_key ones (low + m) || eqb n (shape_of (low + m)).fields)) && others n low m

module _ (k : ℕ) (a : OneOf twos k → ⊥) (b : OneOf ones k → ⊥) where
  neither : (n j : ℕ) → k ≡ j → has_key twos j || (has_key ones j || eqb n (shape_of j).fields) ≡ true → n ≡ (shape_of k).fields
  neither n j q e = go (has_key twos j) refl (has_key ones j) refl e
    where
      there : (js : List ℕ) → has_key js j ≡ true → OneOf js k
      there js f = hit js k (subst T (sym f ∙ ap (has_key js) (sym q)) tt)

      go : (x : Bool) → has_key twos j ≡ x → (y : Bool) → has_key ones j ≡ y → x || (y || eqb n (shape_of j).fields) ≡ true → n ≡ (shape_of k).fields
      go true f y g h = absurd (a (there twos f))
      go false f true g h = absurd (b (there ones g))
      go false f false g h = eqb-true _ _ h ∙ ap (λ i. (shape_of i).fields) (sym q)

  pub other_kind : (n low m : ℕ) → others n low m ≡ true → low ≤ k → k < low + m → n ≡ (shape_of k).fields
  other_kind n low zero e p q = absurd (omega arith)
  other_kind n low (suc m) e p q =
      let s = and_both (has_key twos (low + m) || (has_key ones (low + m) || eqb n (shape_of (low + m)).fields)) (others n low m) e in
      go (eqb k (low + m)) refl (neither n (low + m)) s.0 (other_kind n low m s.1 p)
    where
      go : (x : Bool) → eqb k (low + m) ≡ x → (k ≡ low + m → has_key twos (low + m) || (has_key ones (low + m) || eqb n (shape_of (low + m)).fields) ≡ true → n ≡ (shape_of k).fields)
          → has_key twos (low + m) || (has_key ones (low + m) || eqb n (shape_of (low + m)).fields) ≡ true → (k < low + m → n ≡ (shape_of k).fields) → n ≡ (shape_of k).fields
      go true f here h below = here (eqb-true _ _ f) h
      go false f here h below = let d = eqb-false k (low + m) f in below (omega (arith, d))

kind_beyond : (k : ℕ) → 85 < k → k < 4294967296 → 0 ≡ (shape_of k).fields
unfolding shape_of clear
kind_beyond k p q = ap (λ r. r.fields) (absent 86 4294967296 k shapes refl p q)

-- the last range has no end in the list
pub kind_past : (k : ℕ) → (OneOf twos k → ⊥) → (OneOf ones k → ⊥) → 47 ≤ k → k < 4294967296 → 0 ≡ (shape_of k).fields
unfolding shape_of
kind_past k a b p q = go (leb 86 k) refl
  where
    go : (x : Bool) → leb 86 k ≡ x → 0 ≡ (shape_of k).fields
    go true f = kind_beyond k (leb-true 86 k f) q
    go false f = let l = leb-false 86 k f in other_kind k a b 0 47 39 refl p (omega arith)

-- The kinds of a class: every shape of a list that has the class stands at a kind from `low` to `high`
abbrev pub all_within : (c low high : ℕ) → List (ℕ × Shape) → Bool
all_within c low high [] = true
all_within c low high (r ∷ rs) = (not (eqb r.1.class c) || (leb low r.0 && leb r.0 high)) && all_within c low high rs

within_row : (c low high : ℕ) (r : ℕ × Shape) → not (eqb r.1.class c) || (leb low r.0 && leb r.0 high) ≡ true → r.1.class ≡ c → (low ≤ r.0) × (r.0 ≤ high)
within_row c low high r e q =
    let p = and_both (leb low r.0) (leb r.0 high) (simp (eq-eqb r.1.class c q) at e) in
    (leb-true _ _ p.0, leb-true _ _ p.1)

within : (c low high k : ℕ) (l : List (ℕ × Shape)) → all_within c low high l ≡ true → (c ≡ 0 → ⊥) → (look_up l k).class ≡ c → (low ≤ k) × (k ≤ high)
within c low high k [] e z q = absurd (z (sym q))
within c low high k (r ∷ rs) e z q =
    let p = and_both (not (eqb r.1.class c) || (leb low r.0 && leb r.0 high)) (all_within c low high rs) e in
    go (eqb k r.0) refl q (λ h. within c low high k rs p.1 z h) p.0
  where
    go : (b : Bool) → eqb k r.0 ≡ b → (pick b r.1 (look_up rs k)).class ≡ c → ((look_up rs k).class ≡ c → (low ≤ k) × (k ≤ high))
        → not (eqb r.1.class c) || (leb low r.0 && leb r.0 high) ≡ true → (low ≤ k) × (k ≤ high)
    go true f g h w = rw (eqb-true k r.0 f) (within_row c low high r w g)
    go false f g h w = h g

pub kind_range : (c low high k : ℕ) → all_within c low high shapes ≡ true → (c ≡ 0 → ⊥) → (shape_of k).class ≡ c → (low ≤ k) × (k ≤ high)
unfolding shape_of
kind_range c low high k e z q = within c low high k shapes e z q

module _ (k : ℕ) where
  pub module_kind : (shape_of k).class ≡ a_module → k ≡ 1
  module_kind e = let p = kind_range a_module 1 1 k refl (omega arith) e in omega arith

  pub type_kind_lem : (shape_of k).class ≡ a_type → (16 ≤ k) × (k ≤ 20)
  type_kind_lem e = kind_range a_type 16 20 k refl (omega arith) e

  pub expression_kind : (shape_of k).class ≡ an_expression → (32 ≤ k) × (k ≤ 47)
  expression_kind e = kind_range an_expression 32 47 k refl (omega arith) e

  pub compound_kind : (shape_of k).class ≡ a_compound → (48 ≤ k) × (k ≤ 49)
  compound_kind e = kind_range a_compound 48 49 k refl (omega arith) e

  pub statement_kind_lem : (shape_of k).class ≡ a_statement → (64 ≤ k) × (k ≤ 74)
  statement_kind_lem e = kind_range a_statement 64 74 k refl (omega arith) e

  pub item_kind : (shape_of k).class ≡ an_item → (80 ≤ k) × (k ≤ 84)
  item_kind e = kind_range an_item 80 84 k refl (omega arith) e
