-- Tests 6 and 7, and what is left in the words lent. Assumes nothing.
use Prim.Native.Nat.{ℕ, ◌*◌, ◌≤◌, ◌<◌}
use mathlib.Core.Path.{◌≡◌, sym, ◌∙◌, ap, subst}
use mathlib.Core.Bool.{Bool, true, false}
use mathlib.Core.List.{List, [], ◌∷◌, ◌++◌}
use native.Mathlib.Omega.{arith}
use lib.Dec.{ltb}
use lib.ListN.{length, drop, replicate, length-append, length-drop, length-replicate}
use lib.Seq.{drop-append_seam}
use borrow.Author.Tests.{lt-ltb, le-ltb}
use Rattle.fallible.specs.Outcome.{Outcome, refused, accepted, first_refusing, outcome_after}
use Rattle.fallible.specs.Errors.{error_width, room}
use Rattle.names.specs.Names.{names_of, name_count}
use Rattle.meaning.specs.Promise.{work_width, Counts, counts_of, Buffers, lengths_of, refuse_if, cleared, wiped, Accepted}
use Rattle.meaning.proofs.Cleared.{cleared_all, cleared_long, cleared_same}
use Rattle.walk.specs.declared.State.{State}
use Rattle.type_check.specs.Post.{buffers, Passed, BothPasses, late_outcome, Ends}
use Rattle.type_check.proofs.Refusals.{names_counted}

-- An answer is one or the other
pub refused_number : {n m p q : ℕ} → ◌≡◌ {A = Outcome Counts} (refused n p) (refused m q) → n ≡ m
refused_number e = cc

pub accepted_counts : {a b : Counts} → ◌≡◌ {A = Outcome Counts} (accepted a) (accepted b) → a ≡ b
accepted_counts e = cc

pub refused_never : {n p : ℕ} {a : Counts} → ◌≡◌ {A = Outcome Counts} (refused n p) (accepted a) → ⊥
refused_never e = let z : ◌≡◌ {A = ℕ} 0 1 = cc in omega arith

-- The output past the input is that of the copy
from_copy : {input output₁ output rows errors work : List ℕ} {after : Buffers} {counts : Counts} → drop (length input) output₁ ≡ drop (length input) output
    → Accepted input (buffers output₁ rows errors work) after counts → Accepted input (buffers output rows errors work) after counts
from_copy e a =
    record {
      table = a.table;
      types = a.types;
      errors = a.errors;
      operands = a.operands;
      names = a.names;
      items = a.items;
      past_output = a.past_output ∙ e;
      past_rows = a.past_rows;
      past_errors = a.past_errors;
      work = a.work;
    }

-- Before the passes: the working words are 0, the output is a copy of the input
module _ (output work : List ℕ) {input output₁ work₁ : List ℕ} (passed : Passed input (length output) (length work)) (width : length work ≡ work_width * name_count input)
    (emptied : work₁ ≡ replicate (length work) 0) (copied : output₁ ≡ input ++ drop (length input) output) where
  same_past : drop (length input) output₁ ≡ drop (length input) output
  same_past = ap (drop (length input)) copied ∙ drop-append_seam input (drop (length input) output)

  long₁ : length output₁ ≡ length output
  long₁ =
      let a = length-drop (length input) output in
      let b = passed.long in
      ap length copied ∙ length-append input (drop (length input) output) ∙ omega arith

  wide₁ : length work₁ ≡ length work
  wide₁ = ap length emptied ∙ length-replicate (length work) 0

  pub passes_asked : Passed input (length output₁) (length work₁) × ((output₁ ≡ input ++ drop (length input) output₁) × (work₁ ≡ replicate (work_width * name_count input) 0))
  passes_asked =
      let a = passed.long in
      let b = passed.wide in (
        record { layout = passed.layout; names = passed.names; long = omega (arith, long₁); wide = omega (arith, wide₁) },
        (copied ∙ ap (λ (x : List ℕ). input ++ x) (sym same_past), emptied ∙ ap (λ (k : ℕ). replicate k 0) width),
      )

-- After them
module _ (output work : List ℕ) {input rows errors output₁ work₁ output₂ rows₂ errors₂ work₂ work₃ : List ℕ} {r : State}
    (passed : Passed input (length output) (length work)) (width : length work ≡ work_width * name_count input)
    (emptied : work₁ ≡ replicate (length work) 0) (copied : output₁ ≡ input ++ drop (length input) output)
    (passes : BothPasses input (buffers output₁ rows errors work₁) (buffers output₂ rows₂ errors₂ work₂) r)
    (last : work₃ ≡ replicate (length work₂) 0) where
  past₁ : drop (length input) output₁ ≡ drop (length input) output
  past₁ = same_past output work passed width emptied copied

  long₂ : length output₂ ≡ length output
  long₂ = ap (λ l. l.output) passes.lengths ∙ long₁ output work passed width emptied copied

  rows_long : length rows₂ ≡ length rows
  rows_long = ap (λ l. l.rows) passes.lengths

  errors_long : length errors₂ ≡ length errors
  errors_long = ap (λ l. l.errors) passes.lengths

  work_long : length work₂ ≡ length work
  work_long = ap (λ l. l.work) passes.lengths ∙ wide₁ output work passed width emptied copied

  pub room_left : length input ≤ length output₂
  room_left = let a = passed.long in omega (arith, long₂)

  words_cleared : work₃ ≡ cleared (work_width * length (names_of input)) work
  words_cleared =
      let m : length work ≡ work_width * length (names_of input) = width ∙ ap (λ (k : ℕ). work_width * k) (sym (names_counted input)) in
      last ∙ sym (cleared_all work₂) ∙ cleared_same work₂ work work_long ∙ ap (λ (k : ℕ). cleared k work) m

  work₃_long : length work₃ ≡ length work
  work₃_long = ap length last ∙ length-replicate (length work₂) 0 ∙ work_long

  -- Refused: everything lent for the answer is 0
  module _ {output₃ rows₃ errors₃ : List ℕ} (o : output₃ ≡ cleared (length input) output₂) (w : rows₃ ≡ cleared (length rows₂) rows₂)
      (e : errors₃ ≡ cleared (length errors₂) errors₂) where
    wiped_all : buffers output₃ rows₃ errors₃ work₃ ≡ wiped input (buffers output rows errors work)
    wiped_all =
        let a : output₃ ≡ cleared (length input) output = o ∙ ap (λ (x : List ℕ). replicate (length input) 0 ++ x) (passes.past ∙ past₁) in
        let b = w ∙ cleared_same rows₂ rows rows_long in
        let c = e ∙ cleared_same errors₂ errors errors_long in
        λ i. buffers (a i) (b i) (c i) (words_cleared i)

    wiped_long : lengths_of (buffers output₃ rows₃ errors₃ work₃) ≡ lengths_of (buffers output rows errors work)
    wiped_long =
        let a = ap length o ∙ cleared_long (length input) output₂ room_left ∙ long₂ in
        let b = ap length w ∙ cleared_long (length rows₂) rows₂ (omega arith) ∙ rows_long in
        let c = ap length e ∙ cleared_long (length errors₂) errors₂ (omega arith) ∙ errors_long in
        λ i. record { output = a i; rows = b i; errors = c i; work = work₃_long i }

    refused_with : (number : ℕ) → 6 ≤ number → refused number 0 ≡ late_outcome input (lengths_of (buffers output rows errors work))
        → Ends input (buffers output rows errors work) (buffers output₃ rows₃ errors₃ work₃) (refused number 0)
    refused_with number six answer =
        record {
          answers = answer;
          lengths = wiped_long;
          late = λ n p q. subst (λ (k : ℕ). 6 ≤ k) (refused_number q) six;
          emptied = λ n p q. wiped_all;
          filled = λ counts q. absurd (refused_never q);
        }

    -- 6
    pub no_rows : r.full ≡ true → Ends input (buffers output rows errors work) (buffers output₃ rows₃ errors₃ work₃) (refused 6 0)
    no_rows full =
        refused_with 6 (omega arith)
        (ap (λ (b : Bool). outcome_after (first_refusing (refuse_if b 6 ∷ refuse_if (ltb (length errors) (error_width * (counts_of input).errors)) 7 ∷ [])) (accepted (counts_of input))) (sym full ∙ sym passes.full))

    -- 7
    pub no_errors : r.full ≡ false → room errors₂ < r.errors → Ends input (buffers output rows errors work) (buffers output₃ rows₃ errors₃ work₃) (refused 7 0)
    no_errors fits above =
        let more : room errors < r.errors = omega (arith, errors_long) in
        let a = sym fits ∙ sym passes.full in
        let b = sym (passes.crowded fits ∙ lt-ltb (room errors) r.errors more) in
        refused_with 7 (omega arith) (λ i. outcome_after (first_refusing (refuse_if (a i) 6 ∷ refuse_if (b i) 7 ∷ [])) (accepted (counts_of input)))

  -- Accepted
  pub counted : r.full ≡ false → r.errors ≤ room errors₂
      → Ends input (buffers output rows errors work) (buffers output₂ rows₂ errors₂ work₃) (accepted (record { rows = r.rows; errors = r.errors }))
  counted fits under =
      let few : r.errors ≤ room errors = omega (arith, errors_long) in
      let d = passes.done fits (le-ltb (room errors) r.errors few) in
      let a = sym fits ∙ sym passes.full in
      let b = sym (passes.crowded fits ∙ le-ltb (room errors) r.errors few) in
      record {
        answers = λ i. outcome_after (first_refusing (refuse_if (a i) 6 ∷ refuse_if (b i) 7 ∷ [])) (accepted (d.0 i));
        lengths = λ i. record { output = long₂ i; rows = rows_long i; errors = errors_long i; work = work₃_long i };
        late = λ n p q. absurd (refused_never (sym q));
        emptied = λ n p q. absurd (refused_never (sym q));
        filled = λ counts q.
            subst (Accepted input (buffers output rows errors work) (buffers output₂ rows₂ errors₂ work₃)) (sym d.0 ∙ accepted_counts q)
            (from_copy past₁ (d.1.results work work₃ words_cleared));
      }
