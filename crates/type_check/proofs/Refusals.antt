-- The tests that turn a module back before the check. Assumes nothing.
use Prim.Native.Nat.{ℕ, ◌*◌, ◌≤◌, ◌<◌}
use mathlib.Core.Path.{◌≡◌, refl, sym, ◌∙◌, ap}
use mathlib.Core.Bool.{Bool, true, false, ◌||◌}
use mathlib.Core.List.{List}
use mathlib.Core.Option.{Option, none, some}
use Rattle.std.specs.Prelude.{Result, Ok, Err}
use native.Mathlib.Omega.{arith}
use lib.Dec.{ltb}
use lib.ListN.{length, length-map}
use borrow.Author.Tests.{lt-ltb, le-ltb, ltb-false}
use Rattle.fallible.specs.Outcome.{or_next}
use Rattle.names.specs.Names.{names_of, name_count, name_places, name_bytes, Repeated, repeated_name, name_refusal, name_test}
use Rattle.layout.specs.Layout.{Layout, Good, layout_of, layout_refusal}
use Rattle.layout.specs.declared.LayoutError.TheVariants.{TooLong, Fault, TooDeep}
use Rattle.std.proofs.Common.{Some, None, Ok, Err}
use Rattle.meaning.specs.Promise.{work_width, refuse_if}
use Rattle.refusal.specs.declared.Refusal.{Refusal}
use Rattle.refusal.specs.Refusal.{number_of, place_of, refusal_of}
use Rattle.module_tests.specs.Refusal.{module_refusal}
use Rattle.type_check.specs.Post.{loan_refusal, early_refusal, Passed}

pub names_counted : (s : List ℕ) → length (names_of s) ≡ name_count s
unfolding names_of name_count
names_counted s = length-map (name_places s) (name_bytes s)

-- Test 5
module _ (input : List ℕ) (output work names : ℕ) (n : names ≡ name_count input) where
  same : ltb work (work_width * length (names_of input)) ≡ ltb work (work_width * names)
  same = ap (λ (k : ℕ). ltb work (work_width * k)) (names_counted input ∙ sym n)

  loans : (a b : Bool) → ltb output (length input) ≡ a → ltb work (work_width * names) ≡ b → refuse_if (a || b) 5 ≡ loan_refusal input output work
  loans a b p q = λ i. refuse_if (sym p i || sym (same ∙ q) i) 5

  pub short_output : output < length input → some (5, 0) ≡ loan_refusal input output work
  short_output l = loans true (ltb work (work_width * names)) (lt-ltb output (length input) l) refl

  pub short_work : length input ≤ output → work < work_width * names → some (5, 0) ≡ loan_refusal input output work
  short_work l w = loans false true (le-ltb output (length input) l) (lt-ltb work (work_width * names) w)

  pub enough : length input ≤ output → work_width * names ≤ work → none ≡ loan_refusal input output work
  enough l w = loans false false (le-ltb output (length input) l) (le-ltb work (work_width * names) w)

-- Tests 1 to 4, then 5
module _ (input : List ℕ) (output work : ℕ) {A : Type 0} {r : Result A Refusal} (e : refusal_of r ≡ module_refusal input) where
  by_module : {y : Result A Refusal} → r ≡ y → or_next (refusal_of y) (loan_refusal input output work) ≡ early_refusal input output work
  by_module q = ap (λ (x : Option (ℕ × ℕ)). or_next x (loan_refusal input output work)) (ap refusal_of (sym q) ∙ e)

  pub module_refused : {cause : Refusal} → r ≡ Err cause → some (number_of cause, place_of cause) ≡ early_refusal input output work
  module_refused q = by_module q

  pub module_passed : {a : A} {x : Option (ℕ × ℕ)} → r ≡ Ok a → x ≡ loan_refusal input output work → x ≡ early_refusal input output work
  module_passed q h = h ∙ by_module q

-- Where none refuses, all are passed
pub all_passed : (input : List ℕ) (output work : ℕ) → none ≡ early_refusal input output work → Passed input output work
unfolding layout_refusal name_refusal
all_passed input output work e = by_layout (layout_of input) refl e
  where
    never : {A : Type 0} {r : ℕ × ℕ} → ◌≡◌ {A = Option (ℕ × ℕ)} none (some r) → A
    never q = absurd (let z : ◌≡◌ {A = ℕ} 0 1 = cc in omega arith)

    by_loan : layout_of input ≡ Good → repeated_name input ≡ None → (a b : Bool) → ltb output (length input) ≡ a → ltb work (work_width * length (names_of input)) ≡ b
        → none ≡ refuse_if (a || b) 5 → Passed input output work
    by_loan l r true b p q h = never h
    by_loan l r false true p q h = never h
    by_loan l r false false p q h =
        record {
          layout = l;
          names = r;
          long = ltb-false output (length input) p;
          wide = ltb-false work (work_width * name_count input) (ap (λ (k : ℕ). ltb work (work_width * k)) (sym (names_counted input)) ∙ q);
        }

    by_name : layout_of input ≡ Good → (r : Repeated) → repeated_name input ≡ r → none ≡ or_next (name_refusal r) (loan_refusal input output work) → Passed input output work
    by_name l None p h = by_loan l p (ltb output (length input)) (ltb work (work_width * length (names_of input))) refl refl h
    by_name l (Some q) p h = never h

    by_layout : (l : Layout) → layout_of input ≡ l → none ≡ or_next (or_next (layout_refusal l) (name_test input)) (loan_refusal input output work) → Passed input output work
    by_layout (Ok u) p h = by_name p (repeated_name input) refl h
    by_layout (Err TooLong) p h = never h
    by_layout (Err (Fault q)) p h = never h
    by_layout (Err (TooDeep q)) p h = never h
