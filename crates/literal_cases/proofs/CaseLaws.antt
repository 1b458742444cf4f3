-- The answers to the lines of the input, put together. Assumes nothing.
use Prim.Native.Nat.{ℕ, zero, suc, ◌+◌, ◌-◌, ◌≤◌, ◌<◌}
use mathlib.Core.Path.{◌≡◌, refl, sym, ◌∙◌, ap, subst}
use mathlib.Core.List.{List, [], ◌∷◌, ◌++◌}
use mathlib.Core.Option.{Option, none, some}
use native.Mathlib.Omega.{arith}
use lib.ListN.{length, take, drop, length-drop, drop_of_length-le}
use lib.Seq.{take_all, drop-drop}
use borrow.Author.Tests.{lt-ltb, le-ltb}
use Rattle.std.specs.Prelude as code
use Rattle.literal.specs.Literal.{from_str_radix, parsed_value}
use Rattle.program_support.specs.Buffer.{Piece, a_text}
use Rattle.program_support.specs.Lines.{Puts, PutsSome}
use Rattle.program_support.specs.declared.print.Buffer.{Buffer}
use Rattle.program_support.proofs.LineLaws.{puts_none, puts_then, some_then, some_first}
use Rattle.literal_cases.specs.Numbers.{decimal, base_read}
use Rattle.literal_cases.specs.Places.{index_of}
use Rattle.std.specs.Prelude.{position, ◌==◌}
use Rattle.literal_cases.proofs.PlaceLaws.{found, absent}
use Rattle.literal_cases.specs.Lines.{answer_line, not_a_case, text_line, line_at, case_line, lines_from, case_lines}

-- ---- a line: where its blank is, and what is known of the pieces that answer it
module _ (line : List ℕ) (P : List Piece → Type 0) where
  pub no_blank : code.None ≡ position (λ b. b == 32) line → P (a_text not_a_case ∷ []) → P (case_line line)
  unfolding case_line
  no_blank missing h =
      let end : length line ≡ index_of 32 line = absent 32 line missing in
      subst (λ (n : ℕ). P (line_at n line)) end (rw (le-ltb (length line) (length line) (omega arith)) h)

  module _ (blank : ℕ) (known : code.Some blank ≡ position (λ b. b == 32) line) (base : code.Option ℕ) (is : base_read base ≡ decimal (take blank line)) where
    text_answered : (o : Option ℕ) → base_read base ≡ o → P (text_line o (drop (blank + 1) line)) → P (case_line line)
    unfolding case_line
    text_answered o e h =
        let there = found 32 line blank known in
        subst (λ (n : ℕ). P (line_at n line)) there.0
        (rw (lt-ltb blank (length line) there.1) (subst (λ (x : Option ℕ). P (text_line x (drop (blank + 1) line))) (sym e ∙ is) h))

    pub no_base : base ≡ code.None → P (a_text not_a_case ∷ []) → P (case_line line)
    no_base e h = text_answered none (ap base_read e) h

    pub a_base : (number : ℕ) (parsed : code.Option ℕ) → base ≡ code.Some number → parsed_value parsed ≡ from_str_radix number (take (length line - (blank + 1)) (drop (blank + 1) line))
        → P (answer_line (parsed_value parsed)) → P (case_line line)
    a_base number parsed e v h =
        let text = drop (blank + 1) line in
        let left : length text ≡ length line - (blank + 1) = length-drop (blank + 1) line in
        let whole : take (length line - (blank + 1)) text ≡ text = take_all (length line - (blank + 1)) text (omega arith) in
        text_answered (some number) (ap base_read e) (subst (λ (x : Option ℕ). P (answer_line x)) (v ∙ ap (from_str_radix number) whole) h)

-- ---- all lines
lines_none : (most : ℕ) → lines_from most [] ≡ []
unfolding lines_from
lines_none zero = refl
lines_none (suc most) = refl

lines_more : (most : ℕ) (input : List ℕ) → 1 ≤ most → 1 ≤ length input
    → lines_from most input ≡ case_line (take (index_of 10 input) input) ++ lines_from (most - 1) (drop (suc (index_of 10 input)) input)
unfolding lines_from
lines_more zero input p q = absurd (omega arith)
lines_more (suc most) [] p q = absurd (omega arith)
lines_more (suc most) (byte ∷ input) p q =
    let e : most ≡ suc most - 1 = omega arith in
    let end = index_of 10 (byte ∷ input) in
    ap (λ (n : ℕ). case_line (take end (byte ∷ input)) ++ lines_from n (drop end input)) e

-- What is known before the line at a place: once the answers to it and the lines behind it are put, all are, and if some are, some are
pub record Left {A : Type 0} {w : ℕ} (input : List ℕ) (first : Buffer A w) (at : ℕ) (now : Buffer A w) : Type 0 where
  pub most : ℕ
  pub enough : length input - at ≤ most
  pub all : (b : Buffer A w) → Puts (lines_from most (drop at input)) now b → Puts (case_lines input) first b
  pub some : (b : Buffer A w) → PutsSome (lines_from most (drop at input)) now b → PutsSome (case_lines input) first b

module _ {A : Type 0} {w : ℕ} (input : List ℕ) where
  pub left_first : (first : Buffer A w) → Left input first 0 first
  unfolding case_lines
  left_first first = record { most = length input; enough = omega arith; all = λ b h. h; some = λ b h. h }

  module _ {first : Buffer A w} {at : ℕ} {now : Buffer A w} (left : Left input first at now) where
    pub left_none : length input ≤ at → Puts (case_lines input) first now
    left_none p =
        let e : lines_from left.most (drop at input) ≡ [] = ap (lines_from left.most) (drop_of_length-le input p) ∙ lines_none left.most in
        left.all now (subst (λ (ps : List Piece). Puts ps now now) (sym e) (puts_none now))

    module _ (end : ℕ) (found : end ≡ at + index_of 10 (drop at input)) where
      module _ (more : at < length input) where
        -- The line, and those behind it
        step : lines_from left.most (drop at input) ≡ case_line (take (end - at) (drop at input)) ++ lines_from (left.most - 1) (drop (end + 1) input)
        step =
            let lines = drop at input in
            let k = index_of 10 lines in
            let long : length lines ≡ length input - at = length-drop at input in
            let line : k ≡ end - at = omega (arith, found) in
            let next : at + suc k ≡ end + 1 = omega (arith, found) in
            let rest : drop (suc k) lines ≡ drop (end + 1) input = drop-drop (suc k) at input ∙ ap (λ (m : ℕ). drop m input) next in
            lines_more left.most lines (omega (arith, left.enough)) (omega (arith, long))
            ∙ ap (λ (m : ℕ). case_line (take m lines) ++ lines_from (left.most - 1) (drop (suc k) lines)) line
            ∙ ap (λ (l : List ℕ). case_line (take (end - at) lines) ++ lines_from (left.most - 1) l) rest

        pub left_next : {next : Buffer A w} → Puts (case_line (take (end - at) (drop at input))) now next → Left input first (end + 1) next
        left_next put = record {
          most = left.most - 1;
          enough = omega (arith, left.enough, found);
          all = λ b h. left.all b (subst (λ (ps : List Piece). Puts ps now b) (sym step) (puts_then put h));
          some = λ b h. left.some b (subst (λ (ps : List Piece). PutsSome ps now b) (sym step) (some_then put h));
        }

        -- The line was not put whole
        pub left_some : {b : Buffer A w} → PutsSome (case_line (take (end - at) (drop at input))) now b → PutsSome (case_lines input) first b
        left_some {b} h = left.some b (subst (λ (ps : List Piece). PutsSome ps now b) (sym step) (some_first (lines_from (left.most - 1) (drop (end + 1) input)) h))
