-- The tests that turn a module back whatever is lent. Assumes nothing.
use Prim.Native.Nat.{ℕ}
use mathlib.Core.Path.{◌≡◌, ◌∙◌, ap}
use mathlib.Core.List.{List}
use mathlib.Core.Option.{Option, none, some}
use Rattle.std.proofs.Common.{Some, None, Err}
use Rattle.std.proofs.lemmas.Result.{err_from_is_err_and}
use Rattle.fallible.specs.Outcome.{or_next}
use Rattle.refusal.specs.Refusal.{number_of, place_of}
use Rattle.names.specs.Names.{name_refusal, name_test}
use Rattle.layout.specs.Layout.{Good, layout_refusal, layout_tests, cause_of}
use Rattle.layout.specs.declared.LayoutError.{LayoutError}
use Rattle.layout.specs.declared.LayoutError.TheVariants.{TooLong, Fault, TooDeep}
use Rattle.module_tests.specs.Refusal.{module_refusal}

-- Tests 1 to 3
pub bad_layout : (input : List ℕ) (e : LayoutError) → layout_refusal (Err e) ≡ layout_tests input → some (number_of (cause_of e), place_of (cause_of e)) ≡ module_refusal input
unfolding layout_refusal
bad_layout input TooLong h = ap (λ (x : Option (ℕ × ℕ)). or_next x (name_test input)) h
bad_layout input (Fault p) h = ap (λ (x : Option (ℕ × ℕ)). or_next x (name_test input)) h
bad_layout input (TooDeep p) h = ap (λ (x : Option (ℕ × ℕ)). or_next x (name_test input)) h

pub too_deep : (input : List ℕ) (p : ℕ) → layout_refusal (Err (TooDeep p)) ≡ layout_tests input → some (3, p) ≡ module_refusal input
too_deep input p h = bad_layout input (TooDeep p) h

-- then 4
module _ (input : List ℕ) (good : layout_refusal Good ≡ layout_tests input) where
  by_names : {x : Option (ℕ × ℕ)} → x ≡ name_test input → x ≡ module_refusal input
  unfolding layout_refusal
  by_names e = e ∙ ap (λ (x : Option (ℕ × ℕ)). or_next x (name_test input)) good

  pub no_name_repeated : name_refusal None ≡ name_test input → none ≡ module_refusal input
  unfolding name_refusal
  no_name_repeated e = by_names e

  pub name_repeated : (p : ℕ) → name_refusal (Some p) ≡ name_test input → some (4, p) ≡ module_refusal input
  unfolding name_refusal
  name_repeated p e = by_names e

-- Why a module is turned back, and that it is not
pub ruleset refusals = (err_from_is_err_and, bad_layout, too_deep, no_name_repeated, name_repeated)
