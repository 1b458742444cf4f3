-- The descriptions print every operand once, and as what it is: computed for the whole table. Assumes nothing.
use Prim.Native.Nat.{ℕ, zero, suc, ◌<◌}
use native.Mathlib.Omega.{arith}
use mathlib.Core.Path.{◌≡◌, refl, sym, ap, subst}
use mathlib.Core.Bool.{cond}
use mathlib.Core.List.{List, [], ◌∷◌, ◌++◌}
use lib.Dec.{eqb}
use lib.ListN.{length, get_or, drop}
use Rattle.fallible.specs.Operands.{mismatch_kind, literal_kind, operand_sort}
use Rattle.shape.proofs.Cases.{by_number}
use Rattle.descriptions.specs.Descriptions.{descriptions, line_of, first_operand, second_operand, third_operand, literal_place}
use Rattle.descriptions.specs.Operands.{printed_as, printed_once, EveryOperandPrinted}
use Rattle.descriptions.specs.declared.Piece.{Piece}
use Rattle.descriptions.specs.declared.Piece.TheVariants.{BuiltIn, Literal}

-- What a function gives for each number below n, the last first
abbrev tabulated : {A : Type 0} → (ℕ → A) → (n : ℕ) → List A
tabulated f zero = []
tabulated f (suc n) = f n ∷ tabulated f n

same_below : {A : Type 0} (f g : ℕ → A) (n : ℕ) → tabulated f n ≡ tabulated g n → (k : ℕ) → k < n → f k ≡ g k
same_below f g zero e k p = absurd (omega arith)
same_below f g (suc n) e k p =
    by_number k n
    (λ q. subst (λ (m : ℕ). f m ≡ g m) (sym q) (ap (λ (l : List _). get_or l 0 (f n)) e))
    (λ q. same_below f g n (ap (λ (l : List _). drop 1 l) e) k (omega arith))

-- The four words that a line may read: as what it prints each, and as what each is to be printed
abbrev printed : (kind : ℕ) → List (List Piece)
printed kind =
    printed_as first_operand (line_of kind)
    ∷ printed_as second_operand (line_of kind)
    ∷ printed_as third_operand (line_of kind)
    ∷ printed_as literal_place (line_of kind)
    ∷ []

abbrev wanted : (kind : ℕ) → List (List Piece)
wanted kind =
    (printed_once (operand_sort kind 0) ++ cond (eqb kind mismatch_kind) (BuiltIn ∷ []) [])
    ∷ printed_once (operand_sort kind 1)
    ∷ printed_once (operand_sort kind 2)
    ∷ cond (eqb kind literal_kind) (Literal ∷ []) []
    ∷ []

computed : tabulated printed (length descriptions) ≡ tabulated wanted (length descriptions)
unfolding line_of printed_as operand_sort
computed = refl

pub every_operand_printed : EveryOperandPrinted
every_operand_printed kind p = record { first = at 0; second = at 1; third = at 2; literal = at 3 }
  where
    at : (i : ℕ) → get_or (printed kind) i [] ≡ get_or (wanted kind) i []
    at i = ap (λ (l : List (List Piece)). get_or l i []) (same_below printed wanted (length descriptions) computed kind p)
