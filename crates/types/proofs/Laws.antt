-- Laws of unfolded types and of the rows of a table.
use Prim.Native.Nat.{ℕ, zero, suc, ◌+◌, ◌-◌, ◌≤◌, ◌<◌}
use mathlib.Core.Path.{◌≡◌, refl, sym, ap, ◌∙◌, subst}
use mathlib.Core.List.{List}
use mathlib.Core.Bool.{Bool, true, false, cond, ◌&&◌, ◌||◌, true≢false}
use mathlib.Core.Logic.{◌⊎◌, inl, inr, ⊎_elim}
use native.Mathlib.Omega.{arith}
use native.Mathlib.Nat.{le-suc_iff}
use native.Mathlib.Numerals.{add-one}
use borrow.Author.Tests.{eq-eqb, ne_eqb, eqb-false, eqb-true}
use lib.Dec.{eqb, ltb}
use Rattle.types.specs.Ty.{Ty, end, node, same, kind_of, first_of, second_of, size_of, name_of}
use Rattle.types.specs.declared.PartKind.TheVariants.{Unused, TypeRow, Fields, Arguments}
use Rattle.types.specs.Table.{Words, row_at, build, up_to, unfolded, Table, RowOk, PartOk}

-- Equality of types, as a test

pub same_refl : (t : Ty) → same t t ≡ true
unfolding same
same_refl end = refl
same_refl (node k a b s n) = rw (eq-eqb k k refl, same_refl a, same_refl b, eq-eqb s s refl, eq-eqb n n refl)

pub both : (a b : Bool) → (a && b) ≡ true → (a ≡ true) × (b ≡ true)
both true b e = (refl, e)
both false b e = absurd (true≢false (sym e))

pub either : (a b : Bool) → (a || b) ≡ true → (a ≡ true) ⊎ (b ≡ true)
either true b e = inl refl
either false b e = inr e

pub same_true : (t s : Ty) → same t s ≡ true → t ≡ s
unfolding same
same_true end end e = refl
same_true end (node k a b s n) e = absurd (true≢false (sym e))
same_true (node k a b s n) end e = absurd (true≢false (sym e))
same_true (node k a b s n) (node k' a' b' s' n') e =
    let names = both _ (eqb n n') e in
    let sizes = both _ (eqb s s') names.0 in
    let seconds = both _ (same b b') sizes.0 in
    let firsts = both (eqb k k') (same a a') seconds.0 in
    let ek = eqb-true k k' firsts.0 in
    let ea = same_true a a' firsts.1 in
    let eb = same_true b b' seconds.1 in
    let es = eqb-true s s' sizes.1 in
    let en = eqb-true n n' names.1 in
    λ i. node (ek i) (ea i) (eb i) (es i) (en i)

pub same_false : (t s : Ty) → (t ≡ s → ⊥) → same t s ≡ false
same_false t s ne = go (same t s) refl
  where
    go : (b : Bool) → same t s ≡ b → same t s ≡ false
    go true e = absurd (ne (same_true t s e))
    go false e = e

pub end_node : {k : ℕ} {a b : Ty} {s n : ℕ} → end ≡ node k a b s n → ⊥
end_node e = let z : ◌≡◌ {A = ℕ} 0 1 = cc in omega arith

-- Unfolding

pub unfolded_zero : (w : List ℕ) → unfolded w 0 ≡ end
unfolding unfolded up_to
unfolded_zero w = refl

up_to_here : (w : List ℕ) (m : ℕ) → up_to w (suc m) (suc m) ≡ build (row_at w (suc m)) (up_to w m)
unfolding up_to
up_to_here w m = rw (eq-eqb (suc m) (suc m) refl, up_to)

up_to_below : (w : List ℕ) (m n : ℕ) → n ≤ m → up_to w (suc m) n ≡ up_to w m n
unfolding up_to
up_to_below w m n h = let ne : n ≡ suc m → ⊥ = omega arith in rw (ne_eqb n (suc m) ne, up_to)

-- However many rows are unfolded, a row among them is the same
pub up_to_unfolded : (w : List ℕ) (m n : ℕ) → n ≤ m → up_to w m n ≡ unfolded w n
unfolding unfolded
up_to_unfolded w zero n h = let e : 0 ≡ n = omega arith in ap (λ (x : ℕ). up_to w x n) e
up_to_unfolded w (suc m) n h =
    ⊎_elim
    (λ (l : n ≤ m). up_to_below w m n l ∙ up_to_unfolded w m n l)
    (λ (e : n ≡ suc m). ap (λ (x : ℕ). up_to w x n) (sym e))
    (le-suc_iff.0 h)

-- A row that obeys the rules points only to rows before it
module _ (w : List ℕ) (m : ℕ) (r : Words) (ok : RowOk w m r) where
  pub first_at_most : r.first ≤ m
  first_at_most = go (ltb r.kind 6) (eqb r.kind 8) ok.first
    where
      go : (plain fields : Bool) → PartOk w m (cond plain Unused (cond fields Fields TypeRow)) r.first → r.first ≤ m
      go true fields p = omega arith
      go false true p = p.high
      go false false p = p.high

  pub second_at_most : (r.kind ≡ 7 → ⊥) → r.second ≤ m
  second_at_most ne = go (eqb r.kind 12) (eqb r.kind 9 || eqb r.kind 13) (rw (ne_eqb r.kind 7 ne) at ok.second)
    where
      go : (fields arguments : Bool) → PartOk w m (cond fields Fields (cond arguments Arguments Unused)) r.second → r.second ≤ m
      go true arguments p = p.high
      go false true p = p.high
      go false false p = omega arith

  pub build_below : (f g : ℕ → Ty) → ((n : ℕ) → n ≤ m → f n ≡ g n) → build r f ≡ build r g
  build_below f g h = go (eqb r.kind 7) refl
    where
      go : (b : Bool) → eqb r.kind 7 ≡ b → build r f ≡ build r g
      go true e = rw (e, h r.first first_at_most)
      go false e = rw (e, h r.first first_at_most, h r.second (second_at_most (eqb-false r.kind 7 e)))

-- A row that obeys the rules unfolds to its words, each row number among them replaced by that row unfolded
pub unfolded_ok : (w : List ℕ) (m : ℕ) → RowOk w m (row_at w (m + 1)) → unfolded w (m + 1) ≡ build (row_at w (m + 1)) (unfolded w)
unfolding unfolded
unfolded_ok w m ok =
    subst (λ (n : ℕ). RowOk w m (row_at w n) → up_to w n n ≡ build (row_at w n) (unfolded w)) (sym (add-one m))
    (λ p. up_to_here w m ∙ build_below w m (row_at w (suc m)) p (up_to w m) (unfolded w) (up_to_unfolded w m)) ok

-- Rows that obey the rules and unfold to the same type have the same words, if their parts that unfold to the same type have the same number
same_words : (w : List ℕ) (m k : ℕ) (r q : Words) → RowOk w m r → RowOk w k q → ((i j : ℕ) → i ≤ m → j ≤ k → unfolded w i ≡ unfolded w j → i ≡ j)
    → build r (unfolded w) ≡ build q (unfolded w) → r ≡ q
same_words w m k r q okr okq inj e =
    let ek : r.kind ≡ q.kind = ap kind_of e in
    let ef = inj r.first q.first (first_at_most w m r okr) (first_at_most w k q okq) (ap first_of e) in
    let es = go (eqb r.kind 7) refl (rw ek refl) in
    let en : r.name ≡ q.name = ap name_of e in
    λ i. record { kind = ek i; first = ef i; second = es i; name = en i }
  where
    go : (b : Bool) → eqb r.kind 7 ≡ b → eqb q.kind 7 ≡ eqb r.kind 7 → r.second ≡ q.second
    go true er eq = rw (er, eq ∙ er) at (ap size_of e)
    go false er eq =
        inj r.second q.second
        (second_at_most w m r okr (eqb-false r.kind 7 er))
        (second_at_most w k q okq (eqb-false q.kind 7 (eq ∙ er)))
        (rw (er, eq ∙ er) at (ap second_of e))

module _ (w : List ℕ) (count : ℕ) (t : Table w count) where
  -- The rules for row n
  pub row_ok : (n : ℕ) → 1 ≤ n → n ≤ count → RowOk w (n - 1) (row_at w n)
  row_ok n l h = let e : n - 1 + 1 ≡ n = omega arith in subst (λ (x : ℕ). RowOk w (n - 1) (row_at w x)) e (t.rows (n - 1) (omega arith))

  pub first_lower : (n : ℕ) → 1 ≤ n → n ≤ count → (row_at w n).first < n
  first_lower n l h = let p = first_at_most w (n - 1) (row_at w n) (row_ok n l h) in omega arith

  pub second_lower : (n : ℕ) → 1 ≤ n → n ≤ count → ((row_at w n).kind ≡ 7 → ⊥) → (row_at w n).second < n
  second_lower n l h ne = let p = second_at_most w (n - 1) (row_at w n) (row_ok n l h) ne in omega arith

  pub unfolded_row : (n : ℕ) → 1 ≤ n → n ≤ count → unfolded w n ≡ build (row_at w n) (unfolded w)
  unfolded_row zero l h = absurd (omega arith)
  unfolded_row (suc m) l h = rw add-one at (unfolded_ok w m (t.rows m h))

  pub row_not_end : (n : ℕ) → 1 ≤ n → n ≤ count → end ≡ unfolded w n → ⊥
  row_not_end n l h e = end_node (e ∙ unfolded_row n l h)

  injective_step : (i j : ℕ) → ((x y : ℕ) → x < i → x ≤ count → y ≤ count → unfolded w x ≡ unfolded w y → x ≡ y)
      → i ≤ count → j ≤ count → unfolded w i ≡ unfolded w j → i ≡ j
  injective_step zero zero lower hi hj e = refl
  injective_step zero (suc j) lower hi hj e = absurd (row_not_end (suc j) (omega arith) hj (sym (unfolded_zero w) ∙ e))
  injective_step (suc i) zero lower hi hj e = absurd (row_not_end (suc i) (omega arith) hi (sym (unfolded_zero w) ∙ sym e))
  injective_step (suc i) (suc j) lower hi hj e =
      t.distinct (suc i) (suc j) (omega arith) hi (omega arith) hj
      (same_words w i j (row_at w (suc i)) (row_at w (suc j)) (rw add-one at (t.rows i hi)) (rw add-one at (t.rows j hj))
      (λ x y hx hy. lower x y (omega arith) (omega arith) (omega arith))
      (sym (unfolded_row (suc i) (omega arith) hi) ∙ e ∙ unfolded_row (suc j) (omega arith) hj))

  injective_below : (b i j : ℕ) → i < b → i ≤ count → j ≤ count → unfolded w i ≡ unfolded w j → i ≡ j
  injective_below zero i j h = absurd (omega arith)
  injective_below (suc b) i j h = injective_step i j (λ x y l. injective_below b x y (omega arith))

  -- Unfolded rows are equal exactly when their numbers are
  pub injective : (i j : ℕ) → i ≤ count → j ≤ count → unfolded w i ≡ unfolded w j → i ≡ j
  injective i j = injective_below (suc i) i j (omega arith)

  -- A row that may stand behind the table is one of its rows if it unfolds to the same type
  pub words_injective : (n : ℕ) → 1 ≤ n → n ≤ count → (r : Words) → RowOk w count r → unfolded w n ≡ build r (unfolded w) → row_at w n ≡ r
  words_injective n l h r ok e =
      same_words w (n - 1) count (row_at w n) r (row_ok n l h) ok (λ i j hi hj. injective i j (omega arith) hj) (sym (unfolded_row n l h) ∙ e)
