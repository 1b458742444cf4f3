-- The words of an error, and the errors of a list. Assumes nothing.
use Prim.Native.Nat.{ℕ, suc, ◌+◌, ◌-◌, ◌*◌, ◌≤◌, ◌<◌}
use native.Mathlib.Omega.{arith}
use mathlib.Core.Path.{◌≡◌, refl, sym, ap, ◌∙◌}
use mathlib.Core.List.{List, [], ◌∷◌}
use lib.ListN.{length, get_or, take, drop, length-drop}
use lib.Seq.{get_or-drop, take_all}
use Rattle.fallible.specs.Errors.{error_width, error_of, error_at, errors_from}
use Rattle.fallible.specs.declared.Error.{Error}
use Rattle.shape.proofs.Cases.{Below, below}
use Rattle.descriptions.specs.Descriptions.{word_of}
use Rattle.error_messages.specs.Description.{word_at}
use Rattle.error_messages.specs.Inner.{error_in}

-- The word that a byte of a description reads
pub word_read : (words : List ℕ) (byte place : ℕ) → (place ≡ word_of byte) × (place < error_width) → get_or words place 0 ≡ word_at (error_in words) (word_of byte)
unfolding Below
word_read words byte place is =
    below (λ p. get_or words p 0 ≡ word_at (error_in words) p) error_width (refl, (refl, (refl, (refl, (refl, (refl, (refl, (refl, tt)))))))) place is.1
    ∙ ap (word_at (error_in words)) is.0

-- The words of the errors from number i on, as `&errors[ERROR_WIDTH * i..]` has them
abbrev pub words_from : (errors : List ℕ) → (i : ℕ) → List ℕ
words_from errors i = take (length errors - error_width * i) (drop (error_width * i) errors)

words_from_lem : (errors : List ℕ) (i : ℕ) → words_from errors i ≡ drop (error_width * i) errors
words_from_lem errors i = let l = length-drop (error_width * i) errors in take_all (length errors - error_width * i) (drop (error_width * i) errors) (omega arith)

pub words_room : (errors : List ℕ) (many i : ℕ) → error_width * many ≤ length errors → i < many → error_width ≤ length (words_from errors i)
words_room errors many i p q =
    let l = length-drop (error_width * i) errors in
    let e = ap length (words_from_lem errors i) in
    omega arith

-- The error at a number is the first of them
error_here : (errors : List ℕ) (i : ℕ) → error_in (words_from errors i) ≡ error_at errors i
unfolding error_at
error_here errors i = ap error_in (words_from_lem errors i) ∙ ap error_of (λ j place. get_or-drop (error_width * i) errors place 0 j)

-- The errors from number i on
pub errors_more : (errors : List ℕ) (i many : ℕ) → i < many → errors_from errors i (many - i) ≡ error_in (words_from errors i) ∷ errors_from errors (i + 1) (many - (i + 1))
unfolding errors_from
errors_more errors i many p =
    let e : many - i ≡ suc (many - (i + 1)) = omega arith in
    ap (errors_from errors i) e ∙ ap (λ (x : Error). x ∷ errors_from errors (i + 1) (many - (i + 1))) (sym (error_here errors i))

pub errors_none : (errors : List ℕ) (i many : ℕ) → many ≤ i → errors_from errors i (many - i) ≡ []
unfolding errors_from
errors_none errors i many p = let e : many - i ≡ 0 = omega arith in ap (errors_from errors i) e

pub errors_all : (errors : List ℕ) (many : ℕ) → errors_from errors 0 (many - 0) ≡ errors_from errors 0 many
errors_all errors many = let e : many - 0 ≡ many = omega arith in ap (errors_from errors 0) e
