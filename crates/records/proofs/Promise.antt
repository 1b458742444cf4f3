-- What the check of the words says of the records. Assumes nothing.
use Prim.Native.Nat.{ℕ, ◌*◌, ◌/◌, ◌≤◌, ◌<◌}
use mathlib.Core.Path.{◌≡◌, refl, sym, ◌∙◌, ap, subst}
use mathlib.Core.Bool.{Bool, true, false, cond}
use mathlib.Core.List.{List, [], ◌∷◌, ◌++◌, map}
use mathlib.Core.Option.{Option, none, some}
use native.Mathlib.Omega.{arith}
use lib.Dec.{leb, ltb}
use lib.ListN.{length, take, drop, replicate, length-replicate}
use lib.Seq.{length-take-le, take_at}
use borrow.Author.Tests.{leb-true, leb-false, ltb-false}
use Rattle.types.specs.Table.{row_width}
use Rattle.fallible.specs.Outcome.{Outcome, refused, accepted, or_next, first_refusing, outcome_after}
use Rattle.fallible.specs.Errors.{error_width, errors_from}
use Rattle.fallible.specs.declared.Error.{Error}
use Rattle.layout.specs.Layout.{layout_of, layout_refusal}
use Rattle.names.specs.Names.{repeated_name, name_refusal}
use Rattle.meaning.specs.Promise.{Counts, Buffers, Lengths, lengths_of, counts_of, refuse_if, answer_of, unfold_error, placed_errors_of}
use Rattle.meaning.proofs.Cleared.{cleared_all}
use Rattle.type_check.specs.declared.Counts.{Counts as Counted}
use Rattle.module_tests.specs.Refusal.{module_refusal}
use Rattle.refusal.specs.declared.Refusal.{Refusal}
use Rattle.std.specs.Prelude.{Result, Ok}
use Rattle.type_check.specs.Post.{buffers, outcome_of, loan_refusal}
use Rattle.type_check.proofs.Outcomes.{accepted_counts, refused_never}
use Rattle.type_check.proofs.Promise.{Low as LowRefusal, low_module}
use Rattle.records.specs.Records.{too_few_words, words_for, CheckedWords, records_from, zero_record, record_count, records_after, CheckedRecords}
use Rattle.records.proofs.Laws.{errors_long, records_none, records_all, errors_of_front, errors_of_zeros}

-- ---- too few words
abbrev Low : Outcome Counts → Type 0
Low (refused number place) = number ≤ 5
Low (accepted counts) = ⊥

-- Tests 1 to 4 and then 5 refuse with 1 to 5
too_few_low : (t : Option (ℕ × ℕ)) → LowRefusal t → Low (outcome_after t (refused 5 0))
too_few_low none p = omega arith
too_few_low (some r) p = p

-- ---- the words. Cited by nothing here now
pub words_short : {input output rows words work : List ℕ} {answer : Outcome Counts} (records : ℕ) → length words / error_width < records → answer ≡ too_few_words input
    → CheckedWords input records (buffers output rows words work) (buffers output rows words work) answer
words_short records p e = record { short = λ q. (e, refl); checked = λ q. absurd (omega arith); past = refl }

-- ---- accepted: no test refused
accepted_rest : (t u : Option (ℕ × ℕ)) (counts all : Counts) → accepted counts ≡ outcome_after (or_next t u) (accepted all) → accepted counts ≡ outcome_after u (accepted all)
accepted_rest none u counts all e = e
accepted_rest (some r) u counts all e = absurd (refused_never (sym e))

accepted_last : (b : Bool) (counts all : Counts) → accepted counts ≡ outcome_after (first_refusing (refuse_if b 7 ∷ [])) (accepted all) → (b ≡ false) × (counts ≡ all)
accepted_last true counts all e = absurd (refused_never (sym e))
accepted_last false counts all e = (refl, accepted_counts e)

accepted_room : (input : List ℕ) (lent : Lengths) (counts : Counts) → accepted counts ≡ answer_of input lent → error_width * counts.errors ≤ lent.errors
unfolding answer_of
accepted_room input lent counts e =
    let full = refuse_if (ltb lent.errors (error_width * (counts_of input).errors)) 7 in
    let rows = refuse_if (ltb lent.rows (row_width * (counts_of input).rows)) 6 in
    let loan = loan_refusal input lent.output lent.work in
    let name = name_refusal (repeated_name input) in
    let layout = layout_refusal (layout_of input) in
    let all = counts_of input in
    let e₁ = accepted_rest layout (first_refusing (name ∷ loan ∷ rows ∷ full ∷ [])) counts all e in
    let e₂ = accepted_rest name (first_refusing (loan ∷ rows ∷ full ∷ [])) counts all e₁ in
    let e₃ = accepted_rest loan (first_refusing (rows ∷ full ∷ [])) counts all e₂ in
    let e₄ = accepted_rest rows (first_refusing (full ∷ [])) counts all e₃ in
    let both = accepted_last (ltb lent.errors (error_width * (counts_of input).errors)) counts (counts_of input) e₄ in
    let same : counts.errors ≡ (counts_of input).errors = ap (λ (c : Counts). c.errors) both.1 in
    let p = ltb-false lent.errors (error_width * (counts_of input).errors) both.0 in
    omega (arith, same, p)

-- ---- the records, after a check of their words
module _ (input : List ℕ) (before after : Buffers) (records : List Error) where
  abbrev lent : ℕ
  lent = length records

  abbrev front : List ℕ
  front = (words_for lent after).errors

  -- Enough words were lent, where the answer is none of 1 to 5.
  enough : {answer : Outcome Counts} → CheckedWords input lent before after answer → (Low answer → ⊥) → error_width * lent ≤ length before.errors
  enough c other = go (leb (error_width * lent) (length before.errors)) refl
    where
      go : (b : Bool) → leb (error_width * lent) (length before.errors) ≡ b → error_width * lent ≤ length before.errors
      go true e = leb-true (error_width * lent) (length before.errors) e
      go false e =
          let short = (c.short (leb-false (error_width * lent) (length before.errors) e)).0 in
          absurd (other (subst Low (sym short) (too_few_low (module_refusal input) (low_module input))))

  no_more : {counts : Counts} → CheckedWords input lent before after (accepted counts) → (error_width * lent ≤ length before.errors) × (counts.errors ≤ lent)
  no_more {counts} c =
      let p = enough c (λ low. low) in
      let room = accepted_room input (lengths_of (words_for lent before)) counts (c.checked p).answers in
      let long = length-take-le (error_width * lent) before.errors p in
      (p, omega (arith, room, long))

  -- What is asked to fill them.
  pub fit : (answer : Outcome Counts) → CheckedWords input lent before after answer → length after.errors ≡ length before.errors
      → (record_count answer lent ≤ lent) × (error_width * record_count answer lent ≤ length after.errors)
  fit (accepted counts) c l =
      let p = no_more c in
      let a = p.0 in
      let b = p.1 in
      (p.1, omega (arith, a, b, l))
  fit (refused number place) c l = go (leb number 5) refl
    where
      go : (b : Bool) → leb number 5 ≡ b → (cond b 0 lent ≤ lent) × (error_width * cond b 0 lent ≤ length after.errors)
      go true e = (omega arith, omega arith)
      go false e =
          let high = leb-false number 5 e in
          let p = enough c (λ low. omega (arith, high, low)) in
          (omega arith, omega (arith, p, l))

  -- Turned back with 6 or 7: the words are 0, and so are the records.
  zeros : {number place : ℕ} → CheckedWords input lent before after (refused number place) → 5 < number → records_from after.errors lent records ≡ replicate lent zero_record
  zeros {number} {place} c high =
      let p = enough c (λ low. omega (arith, high, low)) in
      let long : length (take (error_width * lent) before.errors) ≡ error_width * lent = length-take-le (error_width * lent) before.errors p in
      let wiped-words : front ≡ replicate (error_width * lent) 0 =
      ap (λ (b : Buffers). b.errors) ((c.checked p).emptied number place refl high) ∙ cleared_all (take (error_width * lent) before.errors) ∙ ap (λ (k : ℕ). replicate k 0) long in
      records_all after.errors records
      ∙ sym (errors_of_front after.errors (error_width * lent) 0 lent (omega arith))
      ∙ ap (λ (l : List ℕ). errors_from l 0 lent) wiped-words
      ∙ errors_of_zeros (error_width * lent) 0 lent (omega arith)

  filled : (answer : Outcome Counts) → CheckedWords input lent before after answer → records_from after.errors (record_count answer lent) records ≡ records_after answer front records
  filled (accepted counts) c =
      let p = (no_more c).1 in
      ap (λ (l : List Error). l ++ drop counts.errors records) (sym (errors_of_front after.errors (error_width * lent) 0 counts.errors (omega arith)))
  filled (refused number place) c = go (leb number 5) refl
    where
      go : (b : Bool) → leb number 5 ≡ b → records_from after.errors (cond b 0 lent) records ≡ cond b records (replicate lent zero_record)
      go true e = records_none after.errors records
      go false e = zeros c (leb-false number 5 e)

  -- The whole promise.
  pub records_checked : {records' : List Error} (answer : Outcome Counts) → CheckedWords input lent before after answer → records' ≡ records_from after.errors (record_count answer lent) records
      → CheckedRecords input before after records records' answer
  records_checked answer c e = record { words = c; filled = e ∙ filled answer c }

-- A list of n records has all errors of an accepted module.
pub errors_fit : {input : List ℕ} {before after : Buffers} {n : ℕ} {records' : List Error} {answer : Result Counted Refusal} {counts : Counted}
    → CheckedRecords input before after (replicate n zero_record) records' (outcome_of answer) → answer ≡ Ok counts → counts.errors ≤ n
errors_fit {input} {before} {after} {n} {records'} {answer} {counts} c e =
    let records = replicate n zero_record in
    let p = (no_more input before after records (subst (λ (a : Result Counted Refusal). CheckedWords input (length records) before after (outcome_of a)) e c.words)).1 in
    let l : length records ≡ n = length-replicate n zero_record in
    omega (arith, p, l)

-- Of an accepted module, the records that are filled are its errors, operands that are row numbers unfolded.
pub records_mean : {input : List ℕ} {before after : Buffers} {records records' : List Error} {counts : Counts} → CheckedRecords input before after records records' (accepted counts)
    → map (unfold_error after.rows) (take counts.errors records') ≡ placed_errors_of input
records_mean {input} {before} {after} {records} {records'} {counts} c =
    let words = (words_for (length records) after).errors in
    let p = (no_more input before after records c.words).0 in
    let front : take counts.errors records' ≡ errors_from words 0 counts.errors =
    ap (take counts.errors) c.filled ∙ take_at (errors_from words 0 counts.errors) (drop counts.errors records) counts.errors (errors_long words 0 counts.errors) in
    ap (map (unfold_error after.rows)) front ∙ ((c.words.checked p).filled counts refl).errors
