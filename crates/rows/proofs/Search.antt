-- The search for a row: by its key, four rows at a time.
use Prim.Native.Nat.{ℕ, suc, ◌+◌, ◌-◌, ◌*◌, ◌≤◌, ◌<◌}
use mathlib.Core.Path.{◌≡◌, ap, ◌∙◌}
use mathlib.Core.Bool.{Bool, false}
use mathlib.Core.List.{List}
use native.Mathlib.Omega.{arith}
use native.Mathlib.Nat.{le-suc_iff}
use native.Mathlib.Numerals.{add-one}
use mathlib.Core.Logic.{⊎_elim}
use lib.ListN.{get_or}
use Rattle.rows.specs.Row.{row_width, row_at}
use Rattle.rows.specs.declared.Words.{Words}
use Rattle.rows.specs.Search.{Decides, NoneWith, KeyOf}
use Rattle.rows.specs.declared.Key.{Key}
use Rattle.rows.proofs.Decide.{fails}

-- What is left out below m + 1 stands at m + 1
pub last_or : (m i : ℕ) → i ≤ m + 1 → (P : Type 0) → (i ≤ m → P) → (i ≡ m + 1 → P) → P
last_or m i h P below last = ⊎_elim (λ (l : i ≤ m). below l) (λ (e : i ≡ suc m). let e' : i ≡ m + 1 = omega arith in last e') (le-suc_iff.0 (rw add-one at h))

-- One of the four rows past row n has the key: row n + 1 + j, whose word is that at `at`
pub one_of_four : (w : List ℕ) (key : Key) (n j at : ℕ) (answer : Bool) → answer ≡ false → get_or w at 0 ≡ key.word → j < 4 → at ≡ row_width * n + key.place + row_width * j
    → Decides (NoneWith w key n (n + 4)) answer
one_of_four w key n j at answer is e h q = rw is (fails (λ s. s.none (n + 1 + j) (omega arith) (omega arith) (here ∙ e)))
  where
    here : get_or w (row_width * (n + 1 + j) - row_width + key.place) 0 ≡ get_or w at 0
    here = ap (λ (x : ℕ). get_or w x 0) (omega arith)

-- None of the rows past row m, as far as row n, has the words r
pub record Unlike (w : List ℕ) (m : ℕ) (r : Words) (n : ℕ) : Type 0 where
  pub unlike : (i : ℕ) → m < i → i ≤ n → row_at w i ≡ r → ⊥

-- The search for the row r past row m has come to row n
pub record Searching (w : List ℕ) (m count : ℕ) (r : Words) (key : Key) (n : ℕ) : Type 0 where
  pub low : m ≤ n
  pub high : n ≤ count
  pub unlike : Unlike w m r n
  pub of : KeyOf r key
