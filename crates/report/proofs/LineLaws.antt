-- The lines of a report, put together. Assumes nothing.
use Prim.Native.Nat.{ℕ, zero, suc, ◌+◌, ◌≤◌, ◌<◌}
use mathlib.Core.Path.{◌≡◌, refl, sym, ◌∙◌, ap, subst}
use mathlib.Core.List.{List, [], ◌∷◌, ◌++◌, append-nil, append_assoc}
use native.Mathlib.Omega.{arith}
use native.Mathlib.Nat.{not-suc-le-zero, le_of_suc-le-suc}
use lib.ListN.{length, take, drop, get_or, length-append}
use Rattle.fallible.specs.Errors.{errors_from}
use Rattle.fallible.specs.declared.Error.{Error}
use Rattle.fallible.specs.Outcome.{accepted}
use Rattle.meaning.specs.Promise.{Buffers, Counts}
use Rattle.records.specs.Records.{words_for, CheckedRecords}
use Rattle.records.proofs.Laws.{errors_long}
use Rattle.program_support.specs.Buffer.{Piece}
use Rattle.program_support.specs.Lines.{Puts, PutsSome}
use Rattle.program_support.specs.declared.print.Buffer.{Buffer}
use Rattle.program_support.proofs.LineLaws.{puts_none, puts_then, some_then, some_first}
use Rattle.report.specs.Lines.{error_line, error_lines}
use Rattle.std.proofs.Common.{Result, Ok}
use Rattle.refusal.specs.declared.Refusal.{Refusal}
use Rattle.type_check.specs.declared.Counts.{Counts as Counted}
use Rattle.type_check.specs.Post.{outcome_of}

lines_more : (errors : List Error) (i : ℕ) (d : Error) → i < length errors → error_lines (take (suc i) errors) ≡ error_lines (take i errors) ++ error_line (get_or errors i d)
unfolding error_lines
lines_more [] i d p = absurd (not-suc-le-zero p)
lines_more (e ∷ es) zero d p = append-nil (error_line e)
lines_more (e ∷ es) (suc i) d p = ap (λ (l : List Piece). error_line e ++ l) (lines_more es i d (le_of_suc-le-suc p)) ∙ sym (append_assoc (error_line e) (error_lines (take i es)) (error_line (get_or es i d)))

-- The line of one of them, and those behind it
lines_split : (errors : List Error) (i : ℕ) (d : Error) → i < length errors → error_lines (take i errors) ++ (error_line (get_or errors i d) ++ error_lines (drop (suc i) errors)) ≡ error_lines errors
unfolding error_lines
lines_split [] i d p = absurd (not-suc-le-zero p)
lines_split (e ∷ es) zero d p = refl
lines_split (e ∷ es) (suc i) d p =
    append_assoc (error_line e) (error_lines (take i es)) (error_line (get_or es i d) ++ error_lines (drop (suc i) es)) ∙ ap (λ (l : List Piece). error_line e ++ l) (lines_split es i d (le_of_suc-le-suc p))

module _ {A : Type 0} {n : ℕ} where
  -- The lines of the first errors: of none, of one more
  pub errors_none : (errors : List Error) (b : Buffer A n) → Puts (error_lines (take 0 errors)) b b
  unfolding error_lines
  errors_none errors b = puts_none b

  pub errors_more : (errors : List Error) (i : ℕ) (d : Error) {b b₁ b₂ : Buffer A n} → i < length errors → Puts (error_lines (take i errors)) b b₁ → Puts (error_line (get_or errors i d)) b₁ b₂
      → Puts (error_lines (take (i + 1) errors)) b b₂
  errors_more errors i d {b} {b₁} {b₂} p h g =
      let e : suc i ≡ i + 1 = omega arith in
      subst (λ (m : ℕ). Puts (error_lines (take m errors)) b b₂) e (subst (λ (l : List Piece). Puts l b b₂) (sym (lines_more errors i d p)) (puts_then h g))

  -- The line of the next was not put whole
  pub errors_some : (errors : List Error) (i : ℕ) (d : Error) {b b₁ b₂ : Buffer A n} → i < length errors → Puts (error_lines (take i errors)) b b₁ → PutsSome (error_line (get_or errors i d)) b₁ b₂
      → PutsSome (error_lines errors) b b₂
  errors_some errors i d {b} {b₁} {b₂} p h s = subst (λ (l : List Piece). PutsSome l b b₂) (lines_split errors i d p) (some_then h (some_first _ s))

-- The list has a record for each error of an accepted module.
pub errors_there : {input : List ℕ} {before after : Buffers} {records records' : List Error} {counts : Counts} → CheckedRecords input before after records records' (accepted counts) → counts.errors ≤ length records'
errors_there {input} {before} {after} {records} {records'} {counts} c =
    let words = (words_for (length records) after).errors in
    let l : length records' ≡ length (errors_from words 0 counts.errors) + length (drop counts.errors records) =
    ap (λ (x : List Error). length x) c.filled ∙ length-append (errors_from words 0 counts.errors) (drop counts.errors records) in
    let m = errors_long words 0 counts.errors in
    omega (arith, l, m)

pub errors_reported : {input : List ℕ} {before after : Buffers} {records records' : List Error} {answer : Result Counted Refusal} {counts : Counted}
    → CheckedRecords input before after records records' (outcome_of answer) → answer ≡ Ok counts → counts.errors ≤ length records'
errors_reported {input} {before} {after} {records} {records'} {answer} {counts} c e =
    errors_there (subst (λ (a : Result Counted Refusal). CheckedRecords input before after records records' (outcome_of a)) e c)
