-- The set of a table's types.
use Prim.Native.Nat.{ℕ, zero, suc, ◌+◌, ◌≤◌}
use mathlib.Core.Path.{◌≡◌, refl, sym, ap, ◌∙◌}
use mathlib.Core.List.{List}
use mathlib.Core.Bool.{Bool, true, false, ◌||◌, or-true, or-false, true≢false}
use mathlib.Core.Logic.{⊎_elim}
use native.Mathlib.Omega.{arith}
use native.Mathlib.Nat.{le-suc_iff}
use native.Mathlib.Numerals.{add-one}
use Rattle.types.specs.Ty.{Ty, same}
use Rattle.types.specs.Table.{unfolded, has_type, Table, Extends}
use Rattle.types.specs.Post.{Added}
use Rattle.types.proofs.Laws.{same_refl, same_true, same_false}
use Rattle.types.proofs.Grow.{kept_types, extends_refl}

pub has_here : (w : List ℕ) (c n : ℕ) (t : Ty) → 1 ≤ n → n ≤ c → unfolded w n ≡ t → has_type w c t ≡ true
unfolding has_type
has_here w zero n t l h e = absurd (omega arith)
has_here w (suc c) n t l h e =
    ⊎_elim
    (λ (b : n ≤ c). rw (has_here w c n t l b e))
    (λ (q : n ≡ suc c). let u : unfolded w (suc c) ≡ t = ap (unfolded w) (sym q) ∙ e in rw (u, same_refl t, or-true))
    (le-suc_iff.0 h)

pub has_none : (w : List ℕ) (c : ℕ) (t : Ty) → ((n : ℕ) → 1 ≤ n → n ≤ c → unfolded w n ≡ t → ⊥) → has_type w c t ≡ false
unfolding has_type
has_none w zero t none = refl
has_none w (suc c) t none =
    rw (same_false t (unfolded w (suc c)) (λ e. none (suc c) (omega arith) (omega arith) (sym e)), has_none w c t (λ n l h e. none n l (omega arith) e))

-- The row of a type that the table has
pub row_of : (w : List ℕ) (c : ℕ) (t : Ty) → has_type w c t ≡ true → (n : ℕ) × (1 ≤ n) × (n ≤ c) × (unfolded w n ≡ t)
unfolding has_type
row_of w zero t e = absurd (true≢false (sym e))
row_of w (suc c) t e = go (same t (unfolded w (suc c))) refl (row_of w c t)
  where
    go : (b : Bool) → same t (unfolded w (suc c)) ≡ b → (has_type w c t ≡ true → (n : ℕ) × (1 ≤ n) × (n ≤ c) × (unfolded w n ≡ t))
        → (n : ℕ) × (1 ≤ n) × (n ≤ suc c) × (unfolded w n ≡ t)
    go true q lower = (suc c, omega arith, omega arith, sym (same_true t (unfolded w (suc c)) q))
    go false q lower =
        let f = lower (sym (or-false (has_type w c t)) ∙ (rw q at e)) in
        (f.0, f.1, omega (arith, f.2), f.3)

-- A type that the table has already
module _ (w : List ℕ) (c n : ℕ) (t : Ty) (tb : Table w c) (l : 1 ≤ n) (h : n ≤ c) (e : unfolded w n ≡ t) where
  has : has_type w c t ≡ true
  has = has_here w c n t l h e

  again : (u : Ty) (b : Bool) → same u t ≡ b → has_type w c u ≡ (has_type w c u || b)
  again u true q = let x : has_type w c u ≡ true = ap (has_type w c) (same_true u t q) ∙ has in rw x
  again u false q = sym (or-false (has_type w c u))

  pub added_found : Added w c t w n c
  added_found =
      record {
        table = tb;
        extends = extends_refl w c;
        low = l;
        high = h;
        type = e;
        types = λ u. again u (same u t) refl;
        counted = rw has;
      }

-- A type that the table has got as its last row
module _ (w w' : List ℕ) (c : ℕ) (t : Ty) (tb : Table w' (c + 1)) (x : Extends w c w' (c + 1)) (e : unfolded w' (c + 1) ≡ t) (none : has_type w c t ≡ false) where
  pub added_last : Added w c t w' (c + 1) (c + 1)
  unfolding has_type
  added_last =
      record {
        table = tb;
        extends = x;
        low = omega arith;
        high = omega arith;
        type = e;
        types = types;
        counted = rw none;
      }
    where
      types : (u : Ty) → has_type w' (c + 1) u ≡ (has_type w c u || same u t)
      types u =
          let p = kept_types w w' c x.kept c (omega arith) u in
          let q : unfolded w' (suc c) ≡ t = ap (unfolded w') (sym (add-one c)) ∙ e in
          ap (λ (n : ℕ). has_type w' n u) (add-one c) ∙ (λ i. p i || same u (q i))
