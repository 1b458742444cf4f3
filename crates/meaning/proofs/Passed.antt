-- A module that is accepted passes every test. Assumes nothing.
use Prim.Native.Nat.{ℕ, ◌*◌, ◌≤◌}
use mathlib.Core.Path.{◌≡◌, refl, subst}
use mathlib.Core.Bool.{Bool, true, false}
use mathlib.Core.Option.{Option, none, some}
use mathlib.Core.List.{List, [], ◌∷◌}
use native.Mathlib.Omega.{arith}
use lib.Dec.{ltb}
use borrow.Author.Tests.{ltb-false}
use Rattle.fallible.specs.Outcome.{accepted, first_refusing, outcome_after}
use Rattle.fallible.specs.Errors.{error_width}
use Rattle.layout.specs.Layout.{Good, layout_of, layout_refusal}
use Rattle.names.specs.Names.{repeated_name, name_refusal}
use Rattle.layout.proofs.LayoutLaws.{only_good}
use Rattle.meaning.specs.Context.{All}
use Rattle.meaning.specs.Promise.{Counts, counts_of, Lengths, refuse_if, tests, answer_of}

none_refuses : (tests : List (Option (ℕ × ℕ))) → first_refusing tests ≡ none → All (λ t. t ≡ none) tests
unfolding All
none_refuses [] e = tt
none_refuses (none ∷ ts) e = (refl, none_refuses ts e)
none_refuses (some r ∷ ts) e = absurd (let z : ◌≡◌ {A = ℕ} 0 1 = cc in omega arith)

not_refused : (o : Option (ℕ × ℕ)) (c d : Counts) → outcome_after o (accepted c) ≡ accepted d → (o ≡ none) × (c ≡ d)
not_refused none c d e = (refl, cc)
not_refused (some r) c d e = absurd (let z : ◌≡◌ {A = ℕ} 0 1 = cc in omega arith)

pub no_if : (b : Bool) (n : ℕ) → refuse_if b n ≡ none → b ≡ false
no_if true n e = absurd (let z : ◌≡◌ {A = ℕ} 0 1 = cc in omega arith)
no_if false n e = refl

-- Its layout has no fault, no name is repeated, and its errors are lent
pub record Passed (input : List ℕ) (lent : Lengths) (counts : Counts) : Type 0 where
  pub layout : layout_of input ≡ Good
  pub faults : layout_refusal (layout_of input) ≡ none
  pub repeats : name_refusal (repeated_name input) ≡ none
  pub errors : error_width * counts.errors ≤ lent.errors

pub passed : (input : List ℕ) (lent : Lengths) (counts : Counts) → answer_of input lent ≡ accepted counts → Passed input lent counts
unfolding answer_of All
passed input lent counts e =
    let p = not_refused (first_refusing (tests input lent)) (counts_of input) counts e in
    let t = none_refuses (tests input lent) p.0 in
    let short = no_if (ltb lent.errors (error_width * (counts_of input).errors)) 7 t.1.1.1.1.0 in
    record {
      layout = only_good (layout_of input) t.0;
      faults = t.0;
      repeats = t.1.0;
      errors = subst (λ (c : Counts). error_width * c.errors ≤ lent.errors) p.1 (ltb-false lent.errors (error_width * (counts_of input).errors) short);
    }
