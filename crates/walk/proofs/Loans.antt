-- One step after another still holds the loans. Assumes nothing.
use Rattle.std.proofs.Common.{refl, ◌∙◌, ◌≡◌, ℕ, List}
use Rattle.walk.specs.declared.Walk.{Walk}
use Rattle.walk.specs.Represents.{lent}
use Rattle.walk.specs.Moments.{moment}
use Rattle.walk.specs.Loans.{SameLoans, OnlyErrors, OnlyRows, OnlyOutput, SameErrors, SameOutput, SameRows}

pub same_refl : (a : Walk) → SameLoans a a
same_refl a =
    record { output = refl; errors = refl; rows = refl; index = refl; output_length = refl; errors_length = refl; rows_length = refl }

pub same_then : {a b c : Walk} → SameLoans a b → SameLoans b c → SameLoans a c
same_then h k =
    record {
      output = k.output ∙ h.output;
      errors = k.errors ∙ h.errors;
      rows = k.rows ∙ h.rows;
      index = k.index ∙ h.index;
      output_length = k.output_length ∙ h.output_length;
      errors_length = k.errors_length ∙ h.errors_length;
      rows_length = k.rows_length ∙ h.rows_length;
    }

pub errors_refl : (a : Walk) → OnlyErrors a a
errors_refl a = record { same = same_refl a; output_kept = refl; rows_kept = refl; index_kept = refl }

pub errors_then : {a b c : Walk} → OnlyErrors a b → OnlyErrors b c → OnlyErrors a c
errors_then h k =
    record {
      same = same_then h.same k.same;
      output_kept = k.output_kept ∙ h.output_kept;
      rows_kept = k.rows_kept ∙ h.rows_kept;
      index_kept = k.index_kept ∙ h.index_kept;
    }

pub rows_refl : (a : Walk) → OnlyRows a a
rows_refl a = record { same = same_refl a; output_kept = refl; errors_kept = refl }

pub rows_then : {a b c : Walk} → OnlyRows a b → OnlyRows b c → OnlyRows a c
rows_then h k =
    record {
      same = same_then h.same k.same;
      output_kept = k.output_kept ∙ h.output_kept;
      errors_kept = k.errors_kept ∙ h.errors_kept;
    }

-- The moment after a step, with what the step leaves alone as it was before

pub after_output : {a b : Walk} → OnlyOutput a b → (work : List ℕ)
    → moment work b ≡ lent work b.output.now a.errors.now a.rows.now a.index.now a.state
after_output {b = b} h work = λ i. lent work b.output.now (h.errors_kept i) (h.rows_kept i) (h.index_kept i) (h.state_kept i)

pub after_errors : {a b : Walk} → OnlyErrors a b → (work : List ℕ)
    → moment work b ≡ lent work a.output.now b.errors.now a.rows.now a.index.now b.state
after_errors {b = b} h work = λ i. lent work (h.output_kept i) b.errors.now (h.rows_kept i) (h.index_kept i) b.state

pub after_rows : {a b : Walk} → OnlyRows a b → (work : List ℕ)
    → moment work b ≡ lent work a.output.now a.errors.now b.rows.now b.index.now b.state
after_rows {b = b} h work = λ i. lent work (h.output_kept i) (h.errors_kept i) b.rows.now b.index.now b.state

pub after_made : {a b : Walk} → SameErrors a b → (work : List ℕ)
    → moment work b ≡ lent work b.output.now a.errors.now b.rows.now b.index.now b.state
after_made {b = b} h work = λ i. lent work b.output.now (h.errors_kept i) b.rows.now b.index.now b.state

pub after_rule : {a b : Walk} → SameOutput a b → (work : List ℕ)
    → moment work b ≡ lent work a.output.now b.errors.now b.rows.now b.index.now b.state
after_rule {b = b} h work = λ i. lent work (h.output_kept i) b.errors.now b.rows.now b.index.now b.state

pub after_leaf : {a b : Walk} → SameRows a b → (work : List ℕ)
    → moment work b ≡ lent work b.output.now b.errors.now a.rows.now a.index.now b.state
after_leaf {b = b} h work = λ i. lent work b.output.now b.errors.now (h.rows_kept i) (h.index_kept i) b.state
