-- The table of lines: one computed test of all its lines is the line of each kind. Assumes nothing.
use Prim.Native.Nat.{ℕ, suc, ◌+◌, ◌≤◌, ◌<◌}
use native.Mathlib.Omega.{arith}
use Prim.Native.String.{String}
use mathlib.Core.Path.{◌≡◌, refl, sym, ap, ◌∙◌}
use mathlib.Core.Bool.{Bool, true, ◌&&◌, and-eq-true_iff}
use mathlib.Core.List.{List, [], ◌∷◌, map}
use borrow.Author.Tests.{leb-true}
use lib.Dec.{leb}
use lib.ListN.{length, get_or, take, drop, drop_of_length-le, get_or-eq_default}
use lib.Seq.{drop-cons, get_or-take, length-take-le}
use Rattle.literal.proofs.Digit.{passes_below, passed}
use Rattle.names.specs.Names.{same_bytes}
use Rattle.names.proofs.NameLaws.{same_true}
use Rattle.descriptions.specs.Descriptions.{descriptions, line, line_of, lines_of, all_lines, LineStands, InTable}

-- Where the line of each kind starts, and where the last ends
abbrev pub starts_from : (place : ℕ) → List String → List ℕ
starts_from place [] = place ∷ []
starts_from place (description ∷ rest) = place ∷ starts_from (place + length (line description)) rest

abbrev pub all_starts : List ℕ
all_starts = starts_from 0 descriptions

-- The line of a kind stands from its start to the next
abbrev right : (kind : ℕ) → Bool
right kind =
    leb (get_or all_starts (kind + 1) 0) (length all_lines)
    && same_bytes (drop (get_or all_starts kind 0) (take (get_or all_starts (kind + 1) 0) all_lines)) (line_of kind)

tested : passes_below (length descriptions) right ≡ true
unfolding line_of lines_of all_lines same_bytes
tested = refl

pub line_stands : (kind : ℕ) → kind < length descriptions → LineStands kind (get_or all_starts kind 0) (get_or all_starts (kind + 1) 0)
line_stands kind p =
    let both = (and-eq-true_iff (leb (get_or all_starts (kind + 1) 0) (length all_lines)) _).0 (passed (length descriptions) right tested kind p) in
    record { inside = leb-true _ _ both.0; is = same_true _ _ both.1 }

-- A kind past the table has an empty one
pub line_past : (kind : ℕ) → length descriptions ≤ kind → LineStands kind 0 0
unfolding line_of
line_past kind p =
    let q : length (map line descriptions) ≤ kind = p in
    record { inside = omega arith; is = sym (get_or-eq_default (map line descriptions) [] q) }

-- How many bytes the lines have
abbrev pub lines_length : ℕ
lines_length = 1293

pub all_long : length all_lines ≡ lines_length
unfolding lines_of all_lines
all_long = refl

-- What is left from place i on of what ends at `end`
pub left_some : (lines : List ℕ) (i end : ℕ) → i < end → end ≤ length lines → drop i (take end lines) ≡ get_or lines i 0 ∷ drop (i + 1) (take end lines)
left_some lines i end p q =
    let e : i + 1 ≡ suc i = omega arith in
    let l = length-take-le end lines q in
    rw (e, sym (get_or-take end lines i 0 p)) (drop-cons (take end lines) i 0 (omega arith))

pub left_none : (lines : List ℕ) (i end : ℕ) → end ≤ i → end ≤ length lines → drop i (take end lines) ≡ []
left_none lines i end p q = let l = length-take-le end lines q in let h : length (take end lines) ≤ i = omega arith in drop_of_length-le (take end lines) h

-- A kind is in the table exactly if its line is not empty
module _ (kind start end : ℕ) (stands : LineStands kind start end) where
  pub some_line : start < end → InTable kind
  some_line p = let l = ap length (sym stands.is ∙ left_some all_lines start end p stands.inside) in omega arith

  pub no_line : end ≤ start → InTable kind → ⊥
  no_line p h = let l = ap length (sym stands.is ∙ left_none all_lines start end p stands.inside) in omega (arith, h)
