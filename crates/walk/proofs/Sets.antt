-- Lists of types as sets. Assumes nothing.
use Prim.Native.Nat.{ℕ, suc, ◌≤◌}
use mathlib.Core.Path.{◌≡◌, refl, sym, ap, ◌∙◌, subst}
use mathlib.Core.Bool.{Bool, true, false, cond, ◌||◌, true≢false, or-true}
use mathlib.Core.List.{List, [], ◌∷◌, ◌++◌, append_assoc}
use native.Mathlib.Omega.{arith}
use Rattle.types.specs.Ty.{Ty, node, same, member, distinct_count, parts}
use Rattle.types.specs.Post.{type_of_row}
use Rattle.types.specs.declared.Row.{Row}
use Rattle.types.specs.declared.Row.TheVariants.{Pointer, Array, Struct, Function, Alias, DistinctAlias, Field, Argument}
use Rattle.types.proofs.Laws.{same_refl, same_true, same_false}
use Rattle.meaning.specs.Context.{each}

-- A test that holds and does not
pub both : {A : Type 0} {b : Bool} → b ≡ true → b ≡ false → A
both p q = absurd (true≢false (sym p ∙ q))

or_right : (a : Bool) {b : Bool} → b ≡ true → (a || b) ≡ true
or_right a p = rw (p, or-true a)

pub each_append : {A B : Type 0} (f : A → List B) (k l : List A) → each f (k ++ l) ≡ each f k ++ each f l
unfolding each
each_append f [] l = refl
each_append f (x ∷ k) l = rw (each_append f k l) (sym (append_assoc (f x) (each f k) (each f l)))

pub member_here : (t : Ty) (l : List Ty) → member t (t ∷ l) ≡ true
unfolding member
member_here t l = rw (same_refl t)

-- Every member of k is one of l
abbrev pub Within : (k l : List Ty) → Type 0
Within k l = (t : Ty) → member t k ≡ true → member t l ≡ true

pub within_tail : (u : Ty) (k l : List Ty) → Within (u ∷ k) l → Within k l
unfolding member
within_tail u k l h t p = h t (or_right (same t u) p)

-- Counting the different members

-- A list without a type
unfoldable without : Ty → List Ty → List Ty
without t [] = []
without t (u ∷ l) = cond (same t u) (without t l) (u ∷ without t l)

member_without : (x t : Ty) (l : List Ty) → same x t ≡ false → member x (without t l) ≡ member x l
unfolding member without
member_without x t [] ne = refl
member_without x t (u ∷ l) ne = go (same t u) refl (member_without x t l ne)
  where
    go : (b : Bool) → same t u ≡ b → member x (without t l) ≡ member x l → member x (cond b (without t l) (u ∷ without t l)) ≡ (same x u || member x l)
    go true e h = let q : same x u ≡ false = subst (λ (y : Ty). same x y ≡ false) (same_true t u e) ne in rw q h
    go false e h = ap (λ (b : Bool). same x u || b) h

without_absent : (t : Ty) (l : List Ty) → member t l ≡ false → without t l ≡ l
unfolding member without
without_absent t [] p = refl
without_absent t (u ∷ l) p = go (same t u) refl (without_absent t l)
  where
    go : (b : Bool) → same t u ≡ b → (member t l ≡ false → without t l ≡ l) → cond b (without t l) (u ∷ without t l) ≡ u ∷ l
    go true e h = both (ap (λ (x : Bool). x || member t l) e) p
    go false e h = ap (λ (x : List Ty). u ∷ x) (h (rw e at p))

count_without : (t : Ty) (l : List Ty) → member t l ≡ true → distinct_count l ≡ suc (distinct_count (without t l))
unfolding member without distinct_count
count_without t [] p = both p refl
count_without t (u ∷ l) p = go (same t u) refl (count_without t l)
  where
    here : (b : Bool) → t ≡ u → member u l ≡ b → (member t l ≡ true → distinct_count l ≡ suc (distinct_count (without t l)))
        → cond b (distinct_count l) (suc (distinct_count l)) ≡ suc (distinct_count (without t l))
    here true e q h = h (subst (λ (x : Ty). member x l ≡ true) (sym e) q)
    here false e q h = ap (λ (x : List Ty). suc (distinct_count x)) (sym (without_absent t l (subst (λ (x : Ty). member x l ≡ false) (sym e) q)))

    there : (b : Bool) → distinct_count l ≡ suc (distinct_count (without t l))
        → cond b (distinct_count l) (suc (distinct_count l)) ≡ suc (cond b (distinct_count (without t l)) (suc (distinct_count (without t l))))
    there true e = e
    there false e = ap suc e

    go : (b : Bool) → same t u ≡ b → (member t l ≡ true → distinct_count l ≡ suc (distinct_count (without t l)))
        → cond (member u l) (distinct_count l) (suc (distinct_count l)) ≡ suc (distinct_count (cond b (without t l) (u ∷ without t l)))
    go true e h = here (member u l) (same_true t u e) refl h
    go false e h =
        let ne : same u t ≡ false = same_false u t (λ q. both (subst (λ (x : Ty). same t x ≡ true) (sym q) (same_refl t)) e) in
        rw (member_without u t l ne) (there (member u l) (h (rw e at p)))

-- More members are no fewer
pub count_within : (k l : List Ty) → Within k l → distinct_count k ≤ distinct_count l
unfolding distinct_count
count_within [] l h = omega arith
count_within (t ∷ k) l h = go (member t k) refl (count_within k)
  where
    go : (b : Bool) → member t k ≡ b → ((m : List Ty) → Within k m → distinct_count k ≤ distinct_count m) → cond b (distinct_count k) (suc (distinct_count k)) ≤ distinct_count l
    go true e ih = ih l (within_tail t k l h)
    go false e ih =
        let c = count_without t l (h t (member_here t k)) in
        let r = ih (without t l) (λ x p. member_without x t l (same_false x t (λ q. both (subst (λ (y : Ty). member y k ≡ true) q p) e)) ∙ within_tail t k l h x p) in
        omega arith

pub count_same : (k l : List Ty) → ((t : Ty) → member t k ≡ member t l) → distinct_count k ≡ distinct_count l
count_same k l e =
    let a = count_within k l (λ t p. sym (e t) ∙ p) in
    let b = count_within l k (λ t p. e t ∙ p) in
    omega arith

-- The type of a row that is asked for is one of its own parts
node_own : (k : ℕ) (a b : Ty) (s n : ℕ) → member (node k a b s n) (parts (node k a b s n)) ≡ true
unfolding parts
node_own k a b s n = member_here (node k a b s n) (parts a ++ parts b)

pub own_part : (row : Row) (look : ℕ → Ty) → member (type_of_row row look) (parts (type_of_row row look)) ≡ true
own_part (Pointer t) look = node_own _ _ _ _ _
own_part (Array t size) look = node_own _ _ _ _ _
own_part (Struct fields) look = node_own _ _ _ _ _
own_part (Function returned arguments) look = node_own _ _ _ _ _
own_part (Alias t name) look = node_own _ _ _ _ _
own_part (DistinctAlias t name) look = node_own _ _ _ _ _
own_part (Field t rest name) look = node_own _ _ _ _ _
own_part (Argument t rest) look = node_own _ _ _ _ _
