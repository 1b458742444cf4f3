-- The texts of operators: one byte, or two that are the same. Assumes nothing.
use Prim.Native.Nat.{ℕ, suc, ◌+◌, ◌-◌, ◌≤◌, ◌<◌}
use native.Mathlib.Omega.{arith}
use native.Mathlib.Decide.{dec_le}
use mathlib.Core.Path.{◌≡◌, refl, sym, ap, ◌∙◌, subst}
use mathlib.Core.Bool.{Bool, true, cond}
use mathlib.Core.List.{List, [], ◌∷◌}
use borrow.Author.Tests.{lt-ltb, le-ltb}
use lib.Dec.{ltb}
use lib.ListN.{length, get_or, set}
use lib.Seq.{sets, set-set}
use Rattle.literal.proofs.Digit.{passes_below, passed}
use Rattle.names.specs.Names.{same_bytes}
use Rattle.names.proofs.NameLaws.{same_true}
use Rattle.text.specs.Text.{ascii}
use Rattle.text.specs.Written.{Written}
use Rattle.descriptions.specs.Descriptions.{operator_text, IsOperator}

-- The byte of each
abbrev symbols : List ℕ
symbols = 0 ∷ ascii "+-*&^|<>="

abbrev once : ℕ → List ℕ
once operator = get_or symbols operator 0 ∷ []

abbrev twice : ℕ → List ℕ
twice operator = get_or symbols operator 0 ∷ get_or symbols operator 0 ∷ []

-- One test of all: the first six have one byte, the others two
abbrev right : ℕ → Bool
right k = same_bytes (operator_text (k + 1)) (cond (ltb (k + 1) 7) (once (k + 1)) (twice (k + 1)))

tested : passes_below 9 right ≡ true
unfolding operator_text same_bytes
tested = refl

module _ (operator : ℕ) (is : IsOperator operator) where
  text_is : operator_text operator ≡ cond (ltb operator 7) (once operator) (twice operator)
  text_is =
      let e : operator - 1 + 1 ≡ operator = omega (arith, is.low) in
      subst (λ (n : ℕ). operator_text n ≡ cond (ltb n 7) (once n) (twice n)) e
      (same_true _ _ (passed 9 right tested (operator - 1) (omega (arith, is.low, is.high))))

  one : operator < 7 → operator_text operator ≡ once operator
  one h = text_is ∙ ap (λ (b : Bool). cond b (once operator) (twice operator)) (lt-ltb operator 7 h)

  two : 7 ≤ operator → operator_text operator ≡ twice operator
  two h = text_is ∙ ap (λ (b : Bool). cond b (once operator) (twice operator)) (le-ltb operator 7 h)

  pub length_one : operator < 7 → 1 ≡ length (operator_text operator)
  length_one h = sym (ap length (one h))

  pub length_two : 7 ≤ operator → 2 ≡ length (operator_text operator)
  length_two h = sym (ap length (two h))

  -- One or two
  pub lengths : (1 ≤ length (operator_text operator)) × (length (operator_text operator) ≤ 2)
  lengths =
      elim (dec_le 7 operator) [
        | yes h ↦ let l = length_two h in (omega arith, omega arith)
        | no h ↦ let l = length_one (omega arith) in (omega arith, omega arith)
      ]

  pub at_most_two : length (operator_text operator) ≤ 2
  at_most_two = lengths.1

  -- Its byte at the first place and at the last
  pub written : (text : List ℕ) (at long last : ℕ) → long ≡ length (operator_text operator) → last + 1 ≡ at + long
      → Written (operator_text operator) text (set (set text at (get_or symbols operator 0)) last (get_or symbols operator 0)) at (at + long)
  written text at long last is ends =
      record { stored = elim (dec_le 7 operator) [ yes h ↦ both h | no h ↦ same (omega arith) ]; next = omega arith }
    where
      symbol : ℕ
      symbol = get_or symbols operator 0

      stored_at : ℕ → List ℕ
      stored_at n = set (set text at symbol) n symbol

      both : 7 ≤ operator → stored_at last ≡ sets text at (operator_text operator)
      both h =
          let l = length_two h in
          let e : last ≡ suc at = omega arith in
          ap stored_at e ∙ ap (sets text at) (sym (two h))

      same : operator < 7 → stored_at last ≡ sets text at (operator_text operator)
      same h =
          let l = length_one h in
          let e : last ≡ at = omega arith in
          ap stored_at e ∙ set-set text at symbol symbol ∙ ap (sets text at) (sym (one h))
