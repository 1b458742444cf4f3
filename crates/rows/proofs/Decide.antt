-- Answers that say whether a fact holds.
use Prim.Native.Nat.{ℕ}
use mathlib.Core.Path.{◌≡◌}
use mathlib.Core.Bool.{Bool, true, false, true≢false, false≢true}
use borrow.Author.Tests.{eqb-true, eqb-false}
use lib.Dec.{eqb}
use Rattle.rows.specs.Search.{Decides}

pub holds : {P : Type 0} → P → Decides P true
holds p = record { yes = λ e. p; no = λ e. absurd (true≢false e) }

pub fails : {P : Type 0} → (P → ⊥) → Decides P false
fails n = record { yes = λ e. absurd (false≢true e); no = λ e. n }

pub likewise : (P Q : Type 0) (b : Bool) → Decides P b → (P → Q) → (Q → P) → Decides Q b
likewise P Q b d f g = record { yes = λ e. f (d.yes e); no = λ e q. d.no e (g q) }

pub by_eqb : (a b : ℕ) → Decides (a ≡ b) (eqb a b)
by_eqb a b = record { yes = eqb-true a b; no = eqb-false a b }
