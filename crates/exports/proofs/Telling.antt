-- What is told of an answer, from the promise that the crate below keeps.
use Prim.Native.Nat.{ℕ, ◌*◌}
use mathlib.Core.Path.{◌≡◌, refl}
use mathlib.Core.Bool.{Bool, true, false, ◌||◌}
use mathlib.Core.Option.{Option, none, some}
use lib.Dec.{ltb}
use lib.ListN.{length}
use native.Mathlib.Omega.{arith}
use borrow.Author.Tests.{ltb-true}
use mathlib.Core.List.{List, [], ◌∷◌}
use Rattle.types.specs.Table.{row_width}
use Rattle.fallible.specs.Outcome.{accepted, or_next, first_refusing, outcome_after}
use Rattle.fallible.specs.Errors.{error_width}
use Rattle.layout.specs.Layout.{Layout, layout_of, layout_refusal}
use Rattle.names.specs.Names.{names_of, Repeated, repeated_name, name_refusal}
use Rattle.layout.specs.declared.LayoutError.TheVariants.{TooLong, Fault, TooDeep}
use Rattle.std.proofs.Common.{Some, None, Ok, Err}
use Rattle.meaning.specs.Promise.{work_width, Counts, Lengths, answer_of, counts_of, refuse_if}
use Rattle.exports.specs.Replies.{refusal_number}

-- the number of a refusal is not 0
abbrev positive : Option (ℕ × ℕ) → Bool
positive none = true
positive (some r) = ltb 0 r.0

layout_positive : (l : Layout) → positive (layout_refusal l) ≡ true
unfolding layout_refusal
layout_positive (Ok u) = refl
layout_positive (Err TooLong) = refl
layout_positive (Err (Fault p)) = refl
layout_positive (Err (TooDeep p)) = refl

name_positive : (r : Repeated) → positive (name_refusal r) ≡ true
unfolding name_refusal
name_positive None = refl
name_positive (Some p) = refl

if_positive : (b : Bool) (number : ℕ) → ltb 0 number ≡ true → positive (refuse_if b number) ≡ true
if_positive true number h = h
if_positive false number h = refl

-- told 0, a test did not refuse
after_0 : (t u : Option (ℕ × ℕ)) (counts : Counts) → positive t ≡ true → (refusal_number (outcome_after u (accepted counts)) ≡ 0 → outcome_after u (accepted counts) ≡ accepted counts)
    → refusal_number (outcome_after (or_next t u) (accepted counts)) ≡ 0 → outcome_after (or_next t u) (accepted counts) ≡ accepted counts
after_0 none u counts p rest h = rest h
after_0 (some r) u counts p rest h = absurd (omega (arith, h, ltb-true 0 r.0 p))

-- A module of which the number 0 is told is accepted; the converse is `refusal_number`
pub accepted_0 : (input : List ℕ) (lent : Lengths) → refusal_number (answer_of input lent) ≡ 0 → answer_of input lent ≡ accepted (counts_of input)
unfolding answer_of
accepted_0 input lent =
    let loan = ltb lent.output (length input) || ltb lent.work (work_width * length (names_of input)) in
    let few-rows = ltb lent.rows (row_width * (counts_of input).rows) in
    let few-errors = ltb lent.errors (error_width * (counts_of input).errors) in
    let all = counts_of input in
    let names = name_refusal (repeated_name input) in
    let loans = refuse_if loan 5 in
    let rows = refuse_if few-rows 6 in
    let errors = refuse_if few-errors 7 in
    after_0 (layout_refusal (layout_of input)) (first_refusing (names ∷ loans ∷ rows ∷ errors ∷ [])) all (layout_positive (layout_of input))
    (after_0 names (first_refusing (loans ∷ rows ∷ errors ∷ [])) all (name_positive (repeated_name input))
    (after_0 loans (first_refusing (rows ∷ errors ∷ [])) all (if_positive loan 5 refl)
    (after_0 rows (first_refusing (errors ∷ [])) all (if_positive few-rows 6 refl) (after_0 errors none all (if_positive few-errors 7 refl) (λ h. refl)))))
