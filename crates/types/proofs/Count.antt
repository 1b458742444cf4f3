-- A table has as many rows as its set of types has members.
use Prim.Native.Nat.{ℕ, zero, suc, ◌≤◌, ◌<◌}
use mathlib.Core.Path.{◌≡◌, refl, sym, ap, ◌∙◌}
use mathlib.Core.List.{List, [], ◌∷◌}
use mathlib.Core.Bool.{Bool, true, false, cond, not, ◌&&◌, ◌||◌, or-true, or-false, and-true, and-false, or_comm, true≢false}
use native.Mathlib.Omega.{arith}
use Rattle.types.specs.Ty.{Ty, same, member, distinct_count}
use Rattle.types.specs.Table.{unfolded, has_type, Table}
use Rattle.types.specs.Post.{Added}
use Rattle.types.proofs.Laws.{same_refl, same_true, same_false, injective}
use Rattle.types.proofs.Set.{has_none}

-- A list without a type
without : Ty → List Ty → List Ty
without t [] = []
without t (u ∷ l) = cond (same u t) (without t l) (u ∷ without t l)

-- Its members are the others
without_member : (t u : Ty) (l : List Ty) → member u (without t l) ≡ (member u l && not (same u t))
unfolding without member
without_member t u [] = refl
without_member t u (v ∷ l) = go (same v t) refl (same u v) refl (without_member t u l)
  where
    absorb : (m s : Bool) → (m && not s) ≡ ((s || m) && not s)
    absorb true true = refl
    absorb true false = refl
    absorb false true = refl
    absorb false false = refl

    go : (b : Bool) → same v t ≡ b → (d : Bool) → same u v ≡ d → member u (without t l) ≡ (member u l && not (same u t))
        → member u (cond b (without t l) (v ∷ without t l)) ≡ ((same u v || member u l) && not (same u t))
    go true e d q lower = let x : same u v ≡ same u t = ap (same u) (same_true v t e) in rw x (lower ∙ absorb (member u l) (same u t))
    go false e true q lower = let x : same u t ≡ false = ap (λ (y : Ty). same y t) (same_true u v q) ∙ e in rw (q, x)
    go false e false q lower = rw q lower

without_count : (t : Ty) (l : List Ty) → distinct_count l ≡ cond (member t l) (suc (distinct_count (without t l))) (distinct_count (without t l))
unfolding without member distinct_count
without_count t [] = refl
without_count t (v ∷ l) = go (same v t) refl (without_count t l)
  where
    n : ℕ
    n = distinct_count (without t l)

    turn : (a b : Bool) → cond a (cond b (suc n) n) (suc (cond b (suc n) n)) ≡ cond b (suc (cond a n (suc n))) (cond a n (suc n))
    turn true true = refl
    turn true false = refl
    turn false true = refl
    turn false false = refl

    one : (a : Bool) → cond a (cond a (suc n) n) (suc (cond a (suc n) n)) ≡ suc n
    one true = refl
    one false = refl

    go : (b : Bool) → same v t ≡ b → distinct_count l ≡ cond (member t l) (suc n) n
        → cond (member v l) (distinct_count l) (suc (distinct_count l))
        ≡ cond (same t v || member t l) (suc (distinct_count (cond b (without t l) (v ∷ without t l)))) (distinct_count (cond b (without t l) (v ∷ without t l)))
    go true e lower =
        let q = same_true v t e in
        let here : same t v ≡ true = ap (same t) q ∙ same_refl t in
        let known : member v l ≡ member t l = ap (λ (x : Ty). member x l) q in
        rw (here, known, lower) (one (member t l))
    go false e lower =
        let other : same t v ≡ false = same_false t v (λ q. true≢false (sym (same_refl v) ∙ ap (same v) (sym q) ∙ e)) in
        let known : member v (without t l) ≡ member v l = without_member t v l ∙ rw (e, and-true) in
        rw (other, known, lower) (turn (member v l) (member t l))

no_member : (l : List Ty) → ((t : Ty) → false ≡ member t l) → 0 ≡ distinct_count l
unfolding member distinct_count
no_member [] h = refl
no_member (t ∷ l) h = absurd (true≢false (sym (h t ∙ rw (same_refl t))))

-- Rows no two of which unfold to the same type
rows_counted : (w : List ℕ) (c : ℕ) → ((i j : ℕ) → i ≤ c → j ≤ c → unfolded w i ≡ unfolded w j → i ≡ j) → (l : List Ty) → ((t : Ty) → has_type w c t ≡ member t l) → c ≡ distinct_count l
unfolding has_type
rows_counted w zero inj l h = no_member l h
rows_counted w (suc c) inj l h =
    ap suc (rows_counted w c (λ i j hi hj. inj i j (omega arith) (omega arith)) (without t l) (λ u. others u (same u t) refl ∙ sym (without_member t u l)))
    ∙ sym (rw present at (without_count t l))
  where
    t : Ty
    t = unfolded w (suc c)

    present : member t l ≡ true
    present = sym (h t) ∙ ap (λ (b : Bool). has_type w c t || b) (same_refl t) ∙ or-true (has_type w c t)

    new : has_type w c t ≡ false
    new = has_none w c t (λ n l b e. let q : n ≡ suc c = inj n (suc c) (omega arith) (omega arith) e in omega arith)

    others : (u : Ty) (b : Bool) → same u t ≡ b → has_type w c u ≡ (member u l && not (same u t))
    others u true e = rw (← h u, e, and-false) (ap (has_type w c) (same_true u t e) ∙ new)
    others u false e = rw (← h u, e, and-true, or-false)

module _ (w : List ℕ) (c : ℕ) (l : List Ty) (members : (u : Ty) → has_type w c u ≡ member u l) where
  -- A table whose types are the members of a list has as many rows as the list has distinct members
  pub row_count : Table w c → c ≡ distinct_count l
  row_count t = rows_counted w c (injective w c t) l members

  -- One more type, and its list
  pub added_members : (t : Ty) (w' : List ℕ) (n c' : ℕ) → Added w c t w' n c' → (u : Ty) → has_type w' c' u ≡ member u (t ∷ l)
  unfolding member
  added_members t w' n c' a u = a.types u ∙ rw (members u) (or_comm (member u l) (same u t))

-- A list with the types of the rows 1 to c
abbrev Covers : List ℕ → (c : ℕ) → List Ty → Type 0
Covers w c l = (u : Ty) → has_type w c u ≡ true → member u l ≡ true

-- One member more than the rows
one_more : (w : List ℕ) (c : ℕ) → ((l : List Ty) → Covers w c l → c ≤ distinct_count l)
    → (t : Ty) → has_type w c t ≡ false → (l : List Ty) → Covers w c l → member t l ≡ true → c < distinct_count l
one_more w c bound t new l all here =
    let p = bound (without t l) (λ u q. others u (same u t) refl q) in
    let q : distinct_count l ≡ suc (distinct_count (without t l)) = rw here at (without_count t l) in
    omega arith
  where
    others : (u : Ty) (b : Bool) → same u t ≡ b → has_type w c u ≡ true → member u (without t l) ≡ true
    others u true e q = absurd (true≢false (sym q ∙ ap (has_type w c) (same_true u t e) ∙ new))
    others u false e q = without_member t u l ∙ rw (e, all u q)

at_most : (w : List ℕ) (c : ℕ) → ((i j : ℕ) → i ≤ c → j ≤ c → unfolded w i ≡ unfolded w j → i ≡ j) → (l : List Ty) → Covers w c l → c ≤ distinct_count l
unfolding has_type
at_most w zero inj l all = omega arith
at_most w (suc c) inj l all =
    one_more w c (at_most w c (λ i j hi hj. inj i j (omega arith) (omega arith))) t
    (has_none w c t (λ n l b e. let q : n ≡ suc c = inj n (suc c) (omega arith) (omega arith) e in omega arith)) l
    (λ u q. all u (rw q)) (all t (rw (same_refl t, or-true)))
  where
    t : Ty
    t = unfolded w (suc c)

module _ (w : List ℕ) (c : ℕ) (tb : Table w c) (l : List Ty) (all : Covers w c l) where
  -- A list with all the types of a table has as many distinct members as the table has rows, or more
  pub rows_at_most : c ≤ distinct_count l
  rows_at_most = at_most w c (injective w c tb) l all

  -- With a type that the table has not, it has more
  pub rows_exceeded : (t : Ty) → has_type w c t ≡ false → member t l ≡ true → c < distinct_count l
  rows_exceeded t new here = one_more w c (at_most w c (injective w c tb)) t new l all here
