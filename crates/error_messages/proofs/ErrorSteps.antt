-- The errors of a list, one after the other. Assumes nothing.
use Prim.Native.Nat.{ℕ, ◌+◌, ◌-◌, ◌≤◌, ◌<◌}
use native.Mathlib.Omega.{arith}
use mathlib.Core.Path.{◌≡◌, sym, subst}
use mathlib.Core.Bool.{Bool, true, false, not}
use mathlib.Core.List.{List, [], ◌∷◌}
use borrow.Author.Tests.{not-true, not-false}
use lib.ListN.{length}
use Rattle.rows.specs.Search.{Decides}
use Rattle.rows.proofs.Decide.{holds, fails}
use Rattle.fallible.specs.Errors.{errors_from}
use Rattle.fallible.specs.declared.Error.{Error}
use Rattle.text.specs.Length.{capped}
use Rattle.text.specs.Written.{Fits, Written}
use Rattle.meaning.specs.Context.{All}
use Rattle.error_messages.specs.Description.{Inputs, inputs, description_of, Readable}
use Rattle.error_messages.specs.Messages.{messages_of}
use Rattle.error_messages.specs.Inner.{error_in}
use Rattle.error_messages.proofs.Steps.{Left, left_start, left_fits, left_exists, left_more, left_done}
use Rattle.error_messages.proofs.Steps.{Counted, count_exists, count_more, count_done, Tested, test_more, test_no, test_done}
use Rattle.error_messages.proofs.Words.{words_from, errors_more, errors_none, errors_all}

-- The errors from number i on are what is left
pub record ErrorsLeft (P : List Error → Type 0) (errors : List ℕ) (many i : ℕ) : Type 0 where
  pub low : i ≤ many
  pub left : P (errors_from errors i (many - i))

module _ (P : List Error → Type 0) (errors : List ℕ) (many : ℕ) where
  start_left : P (errors_from errors 0 many) → ErrorsLeft P errors many 0
  start_left p = record { low = omega arith; left = subst P (sym (errors_all errors many)) p }

  module _ (i : ℕ) (l : ErrorsLeft P errors many i) where
    error_left : i < many → P (error_in (words_from errors i) ∷ errors_from errors (i + 1) (many - (i + 1)))
    error_left p = subst P (errors_more errors i many p) l.left

    none_left : many ≤ i → P []
    none_left p = subst P (errors_none errors i many p) l.left

module _ (s built_in rows : List ℕ) (count : ℕ) (errors : List ℕ) (many : ℕ) where
  abbrev x : Inputs
  x = inputs s built_in rows count

  -- The errors that are left to write, to count and to test
  abbrev pub ErrorsWriting : (before text : List ℕ) (at i : ℕ) → Type 0
  ErrorsWriting before text at i = ErrorsLeft (Left (description_of x) (Readable x) (errors_from errors 0 many) before 0 text at) errors many i

  abbrev pub ErrorsCounting : (total i : ℕ) → Type 0
  ErrorsCounting total i = ErrorsLeft (Counted (description_of x) (Readable x) (errors_from errors 0 many) total) errors many i

  abbrev pub ErrorsTesting : (i : ℕ) → Type 0
  ErrorsTesting i = ErrorsLeft (Tested (Readable x) (errors_from errors 0 many)) errors many i

  pub writing_start : All (Readable x) (errors_from errors 0 many) → (text : List ℕ) → Fits (messages_of x errors many) text 0 → ErrorsWriting text text 0 0
  unfolding messages_of
  writing_start readable text fits = start_left _ errors many (left_start _ _ _ text 0 readable fits)

  module _ (i : ℕ) where
    -- The error at i
    abbrev e : Error
    e = error_in (words_from errors i)

    module _ (before text : List ℕ) (at : ℕ) (w : ErrorsWriting before text at i) where
      pub writing_readable : i < many → Readable x e
      writing_readable p = left_exists _ _ _ before 0 text at _ _ (error_left _ errors many i w p)

      pub writing_fits : i < many → Fits (description_of x e) text at
      writing_fits p = left_fits _ _ _ before 0 text at _ _ (error_left _ errors many i w p)

      pub writing_more : i < many → (text' : List ℕ) (r : ℕ) → Written (description_of x e) text text' at r → ErrorsWriting before text' r (i + 1)
      writing_more p text' r h = record { low = omega arith; left = left_more _ _ _ before 0 text at _ _ (error_left _ errors many i w p) text' r h }

      pub writing_done : many ≤ i → Written (messages_of x errors many) before text 0 at
      unfolding messages_of
      writing_done p = left_done _ _ _ before 0 text at (none_left _ errors many i w p)

    module _ (total : ℕ) (w : ErrorsCounting total i) where
      pub counting_readable : i < many → Readable x e
      counting_readable p = count_exists _ _ _ total _ _ (error_left _ errors many i w p)

      pub counting_more : i < many → (n : ℕ) → n ≡ capped (length (description_of x e)) → (total' : ℕ) → total' ≡ capped (total + n) → ErrorsCounting total' (i + 1)
      counting_more p n n-is total' is = record { low = omega arith; left = count_more _ _ _ total _ _ (error_left _ errors many i w p) n total' n-is is }

      pub counting_done : many ≤ i → total ≡ capped (length (messages_of x errors many))
      unfolding messages_of
      counting_done p = count_done _ _ _ total (none_left _ errors many i w p)

    module _ (w : ErrorsTesting i) where
      module _ (p : i < many) (r : Bool) (d : Decides (Readable x e) r) where
        pub testing_no : not r ≡ true → Decides (All (Readable x) (errors_from errors 0 many)) false
        testing_no q = fails (test_no _ _ _ _ (error_left _ errors many i w p) (d.no (not-true r q)))

        pub testing_more : not r ≡ false → ErrorsTesting (i + 1)
        testing_more q = record { low = omega arith; left = test_more _ _ _ _ (error_left _ errors many i w p) (d.yes (not-false r q)) }

      pub testing_done : many ≤ i → Decides (All (Readable x) (errors_from errors 0 many)) true
      testing_done p = holds (test_done _ _ (none_left _ errors many i w p))
