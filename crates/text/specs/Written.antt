-- What every function that writes asks for, and what it does.
use Rattle.std.specs.Prelude.{ℕ, ◌+◌, ◌≤◌, ◌≡◌, List, length}
use Rattle.std.proofs.lemmas.List.Edits.{sets}
use Rattle.text.specs.Length.{longest}

-- The bytes `t` are not too long, and `text` has room for them at the place `at`
pub record Fits (t text : List ℕ) (at : ℕ) : Type 0 where
  pub short : length t ≤ longest
  pub room : at + length t ≤ length text

-- The bytes `t` were written into `text` at the place `at`, nothing else was, and `r` is the place behind them
pub record Written (t text text' : List ℕ) (at r : ℕ) : Type 0 where
  pub stored : text' ≡ sets text at t
  pub next : r ≡ at + length t
