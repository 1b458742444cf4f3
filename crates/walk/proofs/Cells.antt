-- The cells of a list, made from the last to the first. Assumes nothing.
use Prim.Native.Nat.{ℕ, zero, suc, ◌+◌, ◌-◌, ◌≤◌, ◌<◌}
use mathlib.Core.Path.{◌≡◌, refl, sym, ◌∙◌, subst}
use mathlib.Core.Logic.{inl}
use mathlib.Core.List.{List, []}
use native.Mathlib.Omega.{arith}
use lib.ListN.{length}
use Rattle.types.specs.Table.{Table}
use Rattle.types.specs.Post.{PartsOk}
use Rattle.types.specs.declared.Row.{Row}
use Rattle.types.proofs.Grow.{extends_refl, extends_trans}
use Rattle.row_index.specs.Index.{Indexed}
use Rattle.walk.specs.declared.State.{State}
use Rattle.walk.specs.declared.Typed.{Typed}
use Rattle.walk.specs.Represents.{lent, Good}
use Rattle.walk.specs.Post.{Made, Makes}
use Rattle.walk.specs.Cells.{CellsMade, CellsOk}

-- The last of n + 1 cells is made first, then those before it
pub record LastFirst (cell : (i rest : ℕ) → Row) (n : ℕ) (w b : List ℕ) (st : State) (rest : ℕ) (w' b' : List ℕ) (r : Typed) : Type 0 where
  pub rows : List ℕ
  pub index : List ℕ
  pub made : Typed
  pub makes : Makes (cell n rest) w b st rows index made
  pub others : CellsMade cell n rows index made.state made.ty w' b' r

pub last_first : (cell : (i rest : ℕ) → Row) (n : ℕ) (w b : List ℕ) (st : State) (rest : ℕ) (w' b' : List ℕ) (r : Typed) → CellsMade cell (n + 1) w b st rest w' b' r → LastFirst cell n w b st rest w' b' r
unfolding CellsMade
last_first cell n w b st rest w' b' r c =
    let e : n + 1 ≡ suc n = omega arith in
    let d : CellsMade cell (suc n) w b st rest w' b' r = subst (λ (x : ℕ). CellsMade cell x w b st rest w' b' r) e c in
    record { rows = d.0; index = d.1; made = d.2; makes = d.3; others = d.4 }

-- and the other way round
first_last : (cell : (i rest : ℕ) → Row) (n : ℕ) → 0 < n → (w b : List ℕ) (st : State) (rest : ℕ) (w₁ b₁ : List ℕ) (t : Typed) → Makes (cell (n - 1) rest) w b st w₁ b₁ t
    → (w₂ b₂ : List ℕ) (r : Typed) → CellsMade cell (n - 1) w₁ b₁ t.state t.ty w₂ b₂ r → CellsMade cell n w b st rest w₂ b₂ r
unfolding CellsMade
first_last cell zero l w b st rest w₁ b₁ t m w₂ b₂ r c = absurd (omega arith)
first_last cell (suc n) l w b st rest w₁ b₁ t m w₂ b₂ r c =
    let e : suc n - 1 ≡ n = omega arith in
    (w₁, b₁, t, subst (λ (x : ℕ). Makes (cell x rest) w b st w₁ b₁ t) e m, subst (λ (x : ℕ). CellsMade cell x w₁ b₁ t.state t.ty w₂ b₂ r) e c)

-- Only the cells that are made count
pub cells_same : (cell other : (i rest : ℕ) → Row) (n : ℕ) → ((i : ℕ) → i < n → (x : ℕ) → cell i x ≡ other i x) → (w b : List ℕ) (st : State) (rest : ℕ) (w' b' : List ℕ) (r : Typed)
    → CellsMade cell n w b st rest w' b' r → CellsMade other n w b st rest w' b' r
unfolding CellsMade
cells_same cell other zero h w b st rest w' b' r c = c
cells_same cell other (suc n) h w b st rest w' b' r c = (
  c.0,
  c.1,
  c.2,
  subst (λ (x : Row). Makes x w b st c.0 c.1 c.2) (h n (omega arith) rest) c.3,
  cells_same cell other n (λ i l. h i (omega arith)) c.0 c.1 c.2.state c.2.ty w' b' r c.4,
)

-- A loop that makes them, while so many are left
pub record Left (cell : (i rest : ℕ) → Row) (k count : ℕ) (w₀ b₀ : List ℕ) (st₀ : State) (rest₀ left : ℕ) (w b : List ℕ) (st : State) (rest : ℕ) : Type 0 where
  pub few : left ≤ count
  pub ok : CellsOk cell k left w b st rest
  pub long : length w ≡ length w₀
  pub whole : (w' b' : List ℕ) (r : Typed) → CellsMade cell left w b st rest w' b' r → CellsMade cell count w₀ b₀ st₀ rest₀ w' b' r

pub left_start : (cell : (i rest : ℕ) → Row) (k count : ℕ) (w b : List ℕ) (st : State) (rest : ℕ) → CellsOk cell k count w b st rest → Left cell k count w b st rest count w b st rest
left_start cell k count w b st rest ok = record { few = omega arith; ok = ok; long = refl; whole = λ w' b' r c. c }

-- A row is made whatever else is lent
made_alone : {row : Row} {w b w' b' : List ℕ} {st : State} {r : Typed} → Table w st.rows → Indexed w st.rows b → Makes row w b st w' b' r
    → Made row (lent [] [] [] w b st) (lent [] [] [] w' b' r.state) r.ty
made_alone {w = w} {b = b} {st = st} table indexed m =
    let good : Good (lent [] [] [] w b st) = record { table = table; indexed = indexed; words = λ i. record { either = inl refl } } in
    m.made [] [] [] good

module _ (cell : (i rest : ℕ) → Row) (k count : ℕ) (w₀ b₀ : List ℕ) (st₀ : State) (rest₀ left : ℕ) (w b : List ℕ) (st : State) (rest : ℕ) (inv : Left cell k count w₀ b₀ st₀ rest₀ left w b st rest) where
  pub left_ok : 0 < left → Table w st.rows × PartsOk w st.rows (cell (left - 1) rest)
  left_ok l = (inv.ok.table, inv.ok.parts (left - 1) (omega arith) w st.rows rest (extends_refl w st.rows) inv.ok.later)

  pub left_on : 0 < left → (w₁ b₁ : List ℕ) (t : Typed) → Makes (cell (left - 1) rest) w b st w₁ b₁ t → Left cell k count w₀ b₀ st₀ rest₀ (left - 1) w₁ b₁ t.state t.ty
  left_on l w₁ b₁ t m =
      let ok = inv.ok in
      let made = made_alone ok.table ok.indexed m in
      record {
        few = omega (arith, inv.few);
        ok =
            record {
              table = made.grew.good.table;
              indexed = made.grew.good.indexed;
              parts = λ i h v n x e y. ok.parts i (omega arith) v n x (extends_trans w w₁ v st.rows t.state.rows n made.grew.extends e) y;
              sort = ok.sort;
              later = ok.sort w₁ t.state.rows (left - 1) rest t.ty made.sort;
            };
        long = made.grew.extends.long ∙ inv.long;
        whole = λ w' b' r c. inv.whole w' b' r (first_last cell left l w b st rest w₁ b₁ t m w' b' r c);
      }

  pub left_done : left ≡ 0 → CellsMade cell count w₀ b₀ st₀ rest₀ w b (record { ty = rest; state = st })
  unfolding CellsMade
  left_done e = inv.whole w b (record { ty = rest; state = st }) (subst (λ (x : ℕ). CellsMade cell x w b st rest w b (record { ty = rest; state = st })) (sym e) (refl, refl, refl))
