-- The bytes of a line, one after the other. Assumes nothing.
use Prim.Native.Nat.{ℕ, suc, ◌+◌, ◌-◌, ◌≤◌, ◌<◌}
use native.Mathlib.Omega.{arith}
use mathlib.Core.Path.{◌≡◌, refl, sym, ap, ◌∙◌, subst}
use mathlib.Core.Bool.{Bool, true, false, not}
use mathlib.Core.List.{List, [], ◌∷◌}
use borrow.Author.Tests.{not-true, not-false, leb-true, leb-false}
use lib.Dec.{leb}
use lib.Seq.{drop-cons}
use Rattle.std.proofs.lemmas.List.{drop-take}
use lib.ListN.{length, get_or, take, drop, drop_of_length-le}
use Rattle.rows.specs.Search.{Decides}
use Rattle.rows.proofs.Decide.{holds, fails}
use Rattle.fallible.specs.Errors.{error_width}
use Rattle.text.specs.Length.{capped}
use Rattle.text.specs.Written.{Fits, Written}
use Rattle.descriptions.specs.Descriptions.{piece_of, word_of, line_of, all_lines, LineStands, InTable}
use Rattle.descriptions.proofs.Table.{some_line, no_line}
use Rattle.error_messages.specs.Description.{Inputs, inputs, text_of, ExistsAs, piece_text, PieceExists, description_of, Readable}
use Rattle.error_messages.specs.Inner.{error_in}
use Rattle.error_messages.proofs.Steps.{Left, left_start, left_fits, left_exists, left_more, left_done}
use Rattle.error_messages.proofs.Steps.{Counted, count_start, count_exists, count_more, count_done, Tested, test_start, test_more, test_no, test_done}
use Rattle.error_messages.proofs.Words.{word_read}

-- What stands in `lines` from `start` to `end`, as `&lines[start..end]` has it
abbrev pub bytes_from : (lines : List ℕ) (start end : ℕ) → List ℕ
bytes_from lines start end = take (end - start) (drop start lines)

module _ (lines : List ℕ) (are : lines ≡ all_lines) (kind start end : ℕ) (stands : LineStands kind start end) where
  -- A kind in the table has a line
  pub line_some : InTable kind → start ≤ end
  line_some known = go (leb start end) refl
    where
      go : (b : Bool) → leb start end ≡ b → start ≤ end
      go true e = leb-true start end e
      go false e = absurd (no_line kind start end stands (let p = leb-false start end e in omega arith) known)

  line_is : start ≤ end → line_of kind ≡ bytes_from lines start end
  line_is p =
      let e : start + (end - start) ≡ end = omega arith in
      sym stands.is ∙ (λ i. drop start (take (sym e i) (sym are i))) ∙ drop-take start (end - start) lines

-- What a line has from byte i on is left
pub record LineLeft (P : List ℕ → Type 0) (line : List ℕ) (i : ℕ) : Type 0 where
  pub left : P (drop i line)

module _ (P : List ℕ → Type 0) (line : List ℕ) (i : ℕ) (l : LineLeft P line i) where
  byte_left : i < length line → P (get_or line i 0 ∷ drop (i + 1) line)
  byte_left p = let e : suc i ≡ i + 1 = omega arith in subst P (drop-cons line i 0 p ∙ ap (λ (k : ℕ). get_or line i 0 ∷ drop k line) e) l.left

  none_left : length line ≤ i → P []
  none_left p = subst P (drop_of_length-le line p) l.left

start_left : (P : List ℕ → Type 0) (lines : List ℕ) (are : lines ≡ all_lines) (kind start end : ℕ) (stands : LineStands kind start end) → start ≤ end → P (line_of kind)
    → LineLeft P (bytes_from lines start end) 0
start_left P lines are kind start end stands p h = record { left = subst P (line_is lines are kind start end stands p) h }

module _ (s built_in rows : List ℕ) (count : ℕ) (words : List ℕ) where
  abbrev x : Inputs
  x = inputs s built_in rows count

  -- The lines that are left to write, to count and to test
  abbrev pub LineWriting : (line before : List ℕ) (from : ℕ) (text : List ℕ) (at i : ℕ) → Type 0
  LineWriting line before from text at i =
      LineLeft (Left (piece_text x (error_in words)) (PieceExists x (error_in words)) (line_of (get_or words 0 0)) before from text at) line i

  abbrev pub LineCounting : (line : List ℕ) (total i : ℕ) → Type 0
  LineCounting line total i = LineLeft (Counted (piece_text x (error_in words)) (PieceExists x (error_in words)) (line_of (get_or words 0 0)) total) line i

  abbrev pub LineTesting : (line : List ℕ) (i : ℕ) → Type 0
  LineTesting line i = LineLeft (Tested (PieceExists x (error_in words)) (line_of (get_or words 0 0))) line i

  -- The line of the error's kind
  module _ (lines : List ℕ) (are : lines ≡ all_lines) (start end : ℕ) (stands : LineStands (get_or words 0 0) start end) where
    pub writing_start : Readable x (error_in words) → (text : List ℕ) (from : ℕ) → Fits (description_of x (error_in words)) text from
        → LineWriting (bytes_from lines start end) text from text from 0
    unfolding description_of
    writing_start readable text from fits =
        start_left _ lines are _ start end stands (line_some lines are _ start end stands readable.known) (left_start _ _ _ text from readable.exist fits)

    pub counting_start : Readable x (error_in words) → LineCounting (bytes_from lines start end) 0 0
    counting_start readable =
        start_left _ lines are _ start end stands (line_some lines are _ start end stands readable.known) (count_start _ _ _ readable.exist)

    pub testing_start : start < end → LineTesting (bytes_from lines start end) 0
    testing_start p = start_left _ lines are _ start end stands (omega arith) (test_start _ _)

  -- The byte at i, and the word that was read for it
  module _ (byte place : ℕ) (read : (place ≡ word_of byte) × (place < error_width)) where
    printed : piece_text x (error_in words) byte ≡ text_of x (piece_of byte) byte (get_or words place 0)
    unfolding piece_text
    printed = ap (text_of x (piece_of byte) byte) (sym (word_read words byte place read))

    exists_so : PieceExists x (error_in words) byte → ExistsAs x (piece_of byte) (get_or words place 0)
    unfolding PieceExists
    exists_so h = subst (ExistsAs x (piece_of byte)) (sym (word_read words byte place read)) h

    so_exists : ExistsAs x (piece_of byte) (get_or words place 0) → PieceExists x (error_in words) byte
    unfolding PieceExists
    so_exists h = subst (ExistsAs x (piece_of byte)) (word_read words byte place read) h

  module _ (line : List ℕ) (i : ℕ) where
    module _ (before : List ℕ) (from : ℕ) (text : List ℕ) (at : ℕ) (w : LineWriting line before from text at i) where
      module _ (p : i < length line) (place : ℕ) (read : (place ≡ word_of (get_or line i 0)) × (place < error_width)) where
        pub writing_exists : ExistsAs x (piece_of (get_or line i 0)) (get_or words place 0)
        writing_exists = exists_so (get_or line i 0) place read (left_exists _ _ _ before from text at _ _ (byte_left _ line i w p))

        pub writing_fits : Fits (text_of x (piece_of (get_or line i 0)) (get_or line i 0) (get_or words place 0)) text at
        writing_fits =
            subst (λ (t : List ℕ). Fits t text at) (printed (get_or line i 0) place read) (left_fits _ _ _ before from text at _ _ (byte_left _ line i w p))

        pub writing_more : (text' : List ℕ) (r : ℕ) → Written (text_of x (piece_of (get_or line i 0)) (get_or line i 0) (get_or words place 0)) text text' at r
            → LineWriting line before from text' r (i + 1)
        writing_more text' r h =
            record {
              left = left_more _ _ _ before from text at _ _ (byte_left _ line i w p) text' r
                  (subst (λ (t : List ℕ). Written t text text' at r) (sym (printed (get_or line i 0) place read)) h);
            }

      pub writing_done : length line ≤ i → Written (description_of x (error_in words)) before text from at
      unfolding description_of
      writing_done p = left_done _ _ _ before from text at (none_left _ line i w p)

    module _ (total : ℕ) (w : LineCounting line total i) where
      module _ (p : i < length line) (place : ℕ) (read : (place ≡ word_of (get_or line i 0)) × (place < error_width)) where
        pub counting_exists : ExistsAs x (piece_of (get_or line i 0)) (get_or words place 0)
        counting_exists = exists_so (get_or line i 0) place read (count_exists _ _ _ total _ _ (byte_left _ line i w p))

        pub counting_more : (n : ℕ) → n ≡ capped (length (text_of x (piece_of (get_or line i 0)) (get_or line i 0) (get_or words place 0)))
            → (total' : ℕ) → total' ≡ capped (total + n) → LineCounting line total' (i + 1)
        counting_more n n-is total' is =
            record {
              left = count_more _ _ _ total _ _ (byte_left _ line i w p) n total'
                  (n-is ∙ ap (λ (t : List ℕ). capped (length t)) (sym (printed (get_or line i 0) place read))) is;
            }

      pub counting_done : length line ≤ i → total ≡ capped (length (description_of x (error_in words)))
      unfolding description_of
      counting_done p = count_done _ _ _ total (none_left _ line i w p)

    module _ (w : LineTesting line i) where
      module _ (p : i < length line) (place : ℕ) (read : (place ≡ word_of (get_or line i 0)) × (place < error_width)) (r : Bool)
          (d : Decides (ExistsAs x (piece_of (get_or line i 0)) (get_or words place 0)) r) where
        pub testing_no : not r ≡ true → Decides (Readable x (error_in words)) false
        testing_no e =
            fails (λ h. test_no _ _ _ _ (byte_left _ line i w p) (λ q. d.no (not-true r e) (exists_so (get_or line i 0) place read q)) h.exist)

        pub testing_more : not r ≡ false → LineTesting line (i + 1)
        testing_more e = record { left = test_more _ _ _ _ (byte_left _ line i w p) (so_exists (get_or line i 0) place read (d.yes (not-false r e))) }

      pub testing_done : length line ≤ i → (start end : ℕ) → LineStands (get_or words 0 0) start end → start < end → Decides (Readable x (error_in words)) true
      testing_done p start end stands some = holds (record { known = some_line _ start end stands some; exist = test_done _ _ (none_left _ line i w p) })
